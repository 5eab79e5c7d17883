-- The paths that a trace names are formed.
use Rattle.std.proofs.Common.{ℕ, IsTrue, List, [], ◌∷◌, ◌++◌, All, slice_get, Option, refl, sym, subst, inl, inr}
use Rattle.std.specs.Prelude.{unwrap_or}
use Rattle.std.proofs.lemmas.Bool.{and_parts, and_from}
use Rattle.std.proofs.lemmas.List.Elements.{All-weaker, All-contains}
use Rattle.std.proofs.lemmas.Option.{slice_get_cases}
use Rattle.text_scan.specs.Forms.{is_component}
use Rattle.litmus_syntax.specs.Forms.{is_formed_path}
use Rattle.fer_events.specs.declared.tables.SlotName.{SlotName}
use Rattle.fer_events.specs.Tables.{Trace, IsTrace}
use Rattle.fer_events.specs.Paths.{slot_path}

-- a component more makes a longer path
longer_formed : (path : List (List ℕ)) (name : List ℕ) → IsTrue (is_formed_path path) → IsTrue (is_component name) → IsTrue (is_formed_path (path ++ name ∷ []))
longer_formed [] name path_is name_is = and_from _ _ name_is refl
longer_formed (part ∷ parts) name path_is name_is =
    let both = and_parts (is_component part) (is_formed_path parts) path_is in
    and_from _ _ both.0 (longer_formed parts name both.1 name_is)

-- the path of a directory, which may not be there
dir_formed : (dirs : List (List (List ℕ))) (dir : ℕ) → All (λ path. IsTrue (is_formed_path path)) dirs → IsTrue (is_formed_path (unwrap_or (slice_get dirs dir) []))
dir_formed dirs dir all =
    let formed : List (List ℕ) → Type 0 = λ path. IsTrue (is_formed_path path) in
    elim ((slice_get_cases dirs dir).1) [
      | inl there ↦ subst (λ (o : Option (List (List ℕ))). formed (unwrap_or o [])) (sym there.2)
          (All-contains formed dirs there.0 all (dir, there.1, there.3))
      | inr past ↦ subst (λ (o : Option (List (List ℕ))). formed (unwrap_or o [])) (sym past.1) refl
    ]

-- each slot's path is formed
pub slots_paths_formed : (t : Trace) → IsTrace t → All (λ slot. IsTrue (is_formed_path (slot_path t.dirs slot))) t.slots
slots_paths_formed t rules =
    All-weaker (λ (slot : SlotName). IsTrue (is_component slot.name)) (λ (slot : SlotName). IsTrue (is_formed_path (slot_path t.dirs slot)))
    (λ slot name_is. longer_formed (unwrap_or (slice_get t.dirs slot.dir) []) slot.name (dir_formed t.dirs slot.dir rules.dirs_formed) name_is) t.slots rules.slots_formed
