-- What is known at one place, in the words of the code that goes through it.
use Rattle.std.proofs.Common.{◌≡◌, ◌≢◌, ℕ, ◌<◌, Bool, true, false, List, [], ◌∷◌, length, get_or, set, slice_get, Some, refl, ap, sym, ◌∙◌, subst, arith, length-set}
use Rattle.std.specs.List.{All, Contains}
use Rattle.std.proofs.lemmas.List.Elements.{All-contains}
use Rattle.std.proofs.lemmas.Option.{slice_get_within, same_Some}
use Rattle.clause_store.specs.declared.Lit.{Lit}
use Rattle.clause_store.specs.Clauses.{InVars}
use Rattle.clause_store.proofs.GeneralLists.{Contains-map}
use Rattle.trail_core.specs.Course.{Entry, Course, Holds, Fails, HasNoValue, extended}
use Rattle.watch_lists.specs.Watching.{Watch}
use Rattle.watch_lists.specs.Links.{Moves, Chained, shifted}
use Rattle.watch_lists.specs.Watching.{IsWatch, numbers}
use Rattle.watch_lists.specs.Propagated.{IsAttached, IsConflict, Advances}
use Rattle.watch_lists.specs.Propagated.Grows.{none, more}
use Rattle.watch_lists.specs.Going.{code, here, other, moved, place, watches_of, IsGoing, IsUnderway}
use Rattle.watch_lists.proofs.Basics.{first-parts, code-lt}
use Rattle.trail_core.proofs.GeneralPlaces.{contains-get}
use Rattle.std.proofs.Common.{not, ◌+◌, ◌*◌, ◌≤◌}
use Rattle.std.proofs.lemmas.Option.{get_or_from_slice_get}
use Rattle.watch_lists.proofs.Pairing.{length-of, numbers-of, id-at, lit-at, lit-moved}
use Rattle.watch_lists.proofs.Steps.{at-read, watch-other, keep-true, keep-implied, move-on}
use Rattle.trail_core.specs.Standing.{OthersFail, AllFail}

pub length-shifted : (from to : ℕ) (all : List (List ℕ)) → length (shifted from to all) ≡ length all
length-shifted from to all = rw (length-set, length-set) refl

-- nothing is added
pub advances-none : (clauses : List (List Lit)) (ns : List ℕ) (t : Course) → Advances clauses ns t t
advances-none clauses ns t = record { vars = refl; level = refl; grows = none }

module _ (clauses : List (List Lit)) (t : Course) (list : List Watch) (all : List (List ℕ)) (l : Lit) (g : IsGoing clauses t list all l) (p : ℕ) (first : slice_get (get_or all 0 []) 0 ≡ Some p) (slot : ℕ) (b : Bool) (pl : p ≡ place slot b) where
  pub slot-lt : slot < length list
  slot-lt = let k = at-read clauses t list all l g p first slot b pl in slice_get_within list slot k.0 k.1

  module _ (w : Watch) (at : slice_get list slot ≡ Some w) where
    is-here : here w b ≡ l
    is-here =
        let k = at-read clauses t list all l g p first slot b pl in
        let P : Watch → Type 0 = λ x. here x b ≡ l in subst P (same_Some k.0 w (sym k.1 ∙ at)) k.2

    watch-is : IsWatch clauses w
    watch-is = g.watches w (contains-get list slot w at)

    pub clause-in : w.clause < length clauses
    clause-in = slice_get_within clauses w.clause watch-is.0 watch-is.1

    module _ (clause : List Lit) (cl : slice_get clauses w.clause ≡ Some clause) (o : Lit) (oe : o ≡ other w b) where
      pub clause-named : All (InVars t.vars) clause
      clause-named = All-contains (All (InVars t.vars)) clauses clause g.named (contains-get clauses w.clause clause cl)

      pub clause-has : Contains clause o
      clause-has =
          let same : watch-is.0 ≡ clause = same_Some watch-is.0 clause (sym watch-is.1 ∙ cl) in
          let P : List Lit → Type 0 = λ c. Contains c (other w b) in
          let has : Contains clause (other w b) = subst P same (watch-other clauses w b watch-is) in
          let Q : Lit → Type 0 = λ m. Contains clause m in
          subst Q (sym oe) has

      pub other-in : InVars t.vars o
      other-in = All-contains (InVars t.vars) clause o clause-named clause-has

      attached : IsAttached clauses (numbers list) w.clause clause
      attached = (Contains-map (λ (x : Watch). x.clause) list w (contains-get list slot w at), cl)

      pub arm-conflict : AllFail t.entries clause → IsConflict clauses (numbers list) t.entries w.clause
      arm-conflict fail = (clause, attached, fail)

      module _ (to : ℕ) (all' : List (List ℕ)) (lists : all' ≡ shifted 0 to all) (moves : (x : ℕ) (xs : List ℕ) → get_or all 0 [] ≡ x ∷ xs → Moves all all' x to) where
        the-move : Moves all all' p to
        the-move =
            let parts = first-parts (get_or all 0 []) p first in
            moves p parts.0 parts.1

        same-length : length all' ≡ length all
        same-length = ap (λ (xs : List (List ℕ)). length xs) lists ∙ length-shifted 0 to all

        pub arm-true : to ≡ code l → Holds t.entries o → IsGoing clauses t list all' l
        arm-true z holds =
            let P : ℕ → Type 0 = λ k. Moves all all' p k in
            let Q : Lit → Type 0 = λ m. Holds t.entries m in
            keep-true clauses t list all l g p first slot b w at pl is-here all' (subst P z the-move) same-length (subst Q oe holds)

        pub arm-unit : to ≡ code l → HasNoValue t.entries o.var → (t' : Course) → t' ≡ extended t t.level (record { lit = o; level = t.level; reason = Some w.clause }) → IsGoing clauses t' list all' l
        arm-unit z free t' te =
            let P : ℕ → Type 0 = λ k. Moves all all' p k in
            let Q : Lit → Type 0 = λ m. InVars t.vars m → HasNoValue t.entries m.var → IsGoing clauses (extended t t.level (record { lit = m; level = t.level; reason = Some w.clause })) list all' l in
            let R : Course → Type 0 = λ u. IsGoing clauses u list all' l in
            subst R (sym te)
            (subst Q (sym oe) (keep-implied clauses t list all l g p first slot b w at pl is-here all' (subst P z the-move) same-length w.clause) other-in free)

        pub arm-free : (m : Lit) → to ≡ code m → Contains clause m → m ≢ o → (Fails t.entries m → ⊥) → (w' : Watch) → w' ≡ moved w b m → (list' : List Watch) → list' ≡ set list slot w' → IsGoing clauses t list' all' l
        arm-free m z has ne free w' we list' le =
            let P : ℕ → Type 0 = λ k. Moves all all' p k in
            let R : List Watch → Type 0 = λ ws. IsGoing clauses t ws all' l in
            subst R (sym (le ∙ ap (λ (x : Watch). set list slot x) we))
            (move-on clauses t list all l g p first slot b w at pl is-here m all' (subst P z the-move) same-length clause cl has (λ e. ne (e ∙ sym oe)) free)

      pub code-room : (m : Lit) → Contains clause m → code m < length all
      code-room m has =
          let there : InVars t.vars m = All-contains (InVars t.vars) clause m clause-named has in
          omega (arith, g.room, code-lt m t.vars there.1)

      pub advances-unit : HasNoValue t.entries o.var → OthersFail t.entries clause o → (t' : Course) → t' ≡ extended t t.level (record { lit = o; level = t.level; reason = Some w.clause }) → Advances clauses (numbers list) t t'
      advances-unit free others t' te =
          let R : Course → Type 0 = λ u. Advances clauses (numbers list) t u in
          let e : Entry = record { lit = o; level = t.level; reason = Some w.clause } in
          subst R (sym te) (record {
            vars = refl;
            level = refl;
            grows = more t.entries e none (w.clause, clause, attached, refl, refl, clause-has, others);
          })

here-beside : (w : Watch) (b : Bool) → here w (not b) ≡ other w b
here-beside w true = refl
here-beside w false = refl

-- the same of watches as they are kept
module _ (clauses : List (List Lit)) (t : Course) (ids : List ℕ) (ch : Chained) (l : Lit) (u : IsUnderway clauses t ids ch l) (p : ℕ) (first : slice_get (get_or ch.lists 0 []) 0 ≡ Some p) (slot : ℕ) (b : Bool) (pl : p ≡ place slot b) where
  abbrev the-watch : (w : Watch) × (slice_get (watches_of ids ch.lits) slot ≡ Some w)
  the-watch = let k = at-read clauses t (watches_of ids ch.lits) ch.lists l u.going p first slot b pl in (k.0, k.1)

  pub slot-ids : slot < length ids
  slot-ids = omega (arith, slot-lt clauses t (watches_of ids ch.lits) ch.lists l u.going p first slot b pl, length-of ids ch.lits u.pairs)

  pub pair-in : 2 * slot + 1 < length ch.lits
  pair-in = omega (arith, slot-ids, u.pairs)

  pub place-in : p < length ch.lits
  place-in = let k = below b in omega (arith, k, pl, pair-in)
    where
      below : (s : Bool) → place slot s ≤ 2 * slot + 1
      below true = omega arith
      below false = omega arith

  kept-as : (t' : Course) (ch' : Chained) → ch'.lits ≡ ch.lits → IsGoing clauses t' (watches_of ids ch.lits) ch'.lists l → IsUnderway clauses t' ids ch' l
  kept-as t' ch' same g =
      let P : List Lit → Type 0 = λ ls. IsGoing clauses t' (watches_of ids ls) ch'.lists l in
      record { pairs = ap (λ (ls : List Lit). length ls) same ∙ u.pairs; going = subst P (sym same) g }

  module _ (o : Lit) (oe : slice_get ch.lits (place slot (not b)) ≡ Some o) where
    abbrev w : Watch
    w = the-watch.0

    at : slice_get (watches_of ids ch.lits) slot ≡ Some w
    at = the-watch.1

    o-is : o ≡ other w b
    o-is = same_Some o (other w b) (sym oe ∙ lit-at ids ch.lits slot w (not b) at ∙ ap (λ (k : Lit). Some k) (here-beside w b))

    w-is : IsWatch clauses w
    w-is = u.going.watches w (contains-get (watches_of ids ch.lits) slot w at)

    pub o-in : InVars t.vars o
    o-in = other-in clauses t (watches_of ids ch.lits) ch.lists l u.going p first slot b pl w at w-is.0 w-is.1 o o-is

    module _ (to : ℕ) (ch' : Chained) (lists : ch' ≡ record ch { lists = shifted 0 to ch.lists }) (moves : (x : ℕ) (xs : List ℕ) → get_or ch.lists 0 [] ≡ x ∷ xs → Moves ch.lists ch'.lists x to) where
      lists-are : ch'.lists ≡ shifted 0 to ch.lists
      lists-are = ap (λ (x : Chained). x.lists) lists

      lits-are : ch'.lits ≡ ch.lits
      lits-are = ap (λ (x : Chained). x.lits) lists

      pub kept-true : to ≡ code l → Holds t.entries o → IsUnderway clauses t ids ch' l
      kept-true z holds =
          kept-as t ch' lits-are
          (arm-true clauses t (watches_of ids ch.lits) ch.lists l u.going p first slot b pl w at w-is.0 w-is.1 o o-is to ch'.lists lists-are moves z holds)

    module _ (id : ℕ) (ie : id ≡ get_or ids slot 0) where
      id-is : id ≡ w.clause
      id-is = ie ∙ get_or_from_slice_get ids slot w.clause 0 (id-at ids ch.lits slot w at)

      pub id-in : id < length clauses
      id-in = let P : ℕ → Type 0 = λ k. k < length clauses in subst P (sym id-is) (clause-in clauses t (watches_of ids ch.lits) ch.lists l u.going p first slot b pl w at)

      module _ (clause : List Lit) (cl : slice_get clauses id ≡ Some clause) where
        cl' : slice_get clauses w.clause ≡ Some clause
        cl' = let P : ℕ → Type 0 = λ k. slice_get clauses k ≡ Some clause in subst P id-is cl

        pub named-here : All (InVars t.vars) clause
        named-here = clause-named clauses t (watches_of ids ch.lits) ch.lists l u.going p first slot b pl w at clause cl' o o-is

        pub has-here : Contains clause o
        has-here = clause-has clauses t (watches_of ids ch.lits) ch.lists l u.going p first slot b pl w at clause cl' o o-is

        pub code-in : (m : Lit) → Contains clause m → code m < length ch.lists
        code-in m has = code-room clauses t (watches_of ids ch.lits) ch.lists l u.going p first slot b pl w at clause cl' o o-is m has

        pub conflict-here : AllFail t.entries clause → IsConflict clauses ids t.entries id
        conflict-here fail =
            let P : ℕ → Type 0 = λ k. IsConflict clauses ids t.entries k in
            let Q : List ℕ → Type 0 = λ ns. IsConflict clauses ns t.entries w.clause in
            subst P (sym id-is) (subst Q (numbers-of ids ch.lits u.pairs)
            (arm-conflict clauses t (watches_of ids ch.lits) ch.lists l u.going p first slot b pl w at clause cl' o o-is fail))

        module _ (t' : Course) (te : t' ≡ extended t t.level (record { lit = o; level = t.level; reason = Some id })) where
          te' : t' ≡ extended t t.level (record { lit = o; level = t.level; reason = Some w.clause })
          te' = let P : ℕ → Type 0 = λ k. t' ≡ extended t t.level (record { lit = o; level = t.level; reason = Some k }) in subst P id-is te

          pub advances-here : HasNoValue t.entries o.var → OthersFail t.entries clause o → Advances clauses ids t t'
          advances-here free others =
              let P : List ℕ → Type 0 = λ ns. Advances clauses ns t t' in
              subst P (numbers-of ids ch.lits u.pairs)
              (advances-unit clauses t (watches_of ids ch.lits) ch.lists l u.going p first slot b pl w at clause cl' o o-is free others t' te')

          pub kept-unit : (to : ℕ) (ch' : Chained) → ch' ≡ record ch { lists = shifted 0 to ch.lists } → ((x : ℕ) (xs : List ℕ) → get_or ch.lists 0 [] ≡ x ∷ xs → Moves ch.lists ch'.lists x to) → to ≡ code l → HasNoValue t.entries o.var → IsUnderway clauses t' ids ch' l
          kept-unit to ch' lists moves z free =
              kept-as t' ch' (ap (λ (x : Chained). x.lits) lists)
              (arm-unit clauses t (watches_of ids ch.lits) ch.lists l u.going p first slot b pl w at clause cl' o o-is to ch'.lists (ap (λ (x : Chained). x.lists) lists) moves z free t' te')

        pub kept-free : (m : Lit) (c1 : Chained) → c1 ≡ record ch { lits = set ch.lits p m } → (to : ℕ) (ch' : Chained) → ch' ≡ record c1 { lists = shifted 0 to c1.lists } → ((x : ℕ) (xs : List ℕ) → get_or c1.lists 0 [] ≡ x ∷ xs → Moves c1.lists ch'.lists x to) → to ≡ code m → Contains clause m → m ≢ o → (Fails t.entries m → ⊥) → IsUnderway clauses t ids ch' l
        kept-free m c1 c1e to ch' lists moves z has ne free =
            let lists1 : c1.lists ≡ ch.lists = ap (λ (x : Chained). x.lists) c1e in
            let lits1 : ch'.lits ≡ set ch.lits p m = ap (λ (x : Chained). x.lits) lists ∙ ap (λ (x : Chained). x.lits) c1e in
            let to-lists : ch'.lists ≡ shifted 0 to ch.lists = ap (λ (x : Chained). x.lists) lists ∙ ap (λ (xs : List (List ℕ)). shifted 0 to xs) lists1 in
            let P : List (List ℕ) → Type 0 = λ ls. (x : ℕ) (xs : List ℕ) → get_or ls 0 [] ≡ x ∷ xs → Moves ls ch'.lists x to in
            let list-is : watches_of ids ch'.lits ≡ set (watches_of ids ch.lits) slot (moved w b m) =
            ap (watches_of ids) lits1 ∙ ap (λ (k : ℕ). watches_of ids (set ch.lits k m)) pl ∙ lit-moved ids ch.lits slot w b m at in
            record {
              pairs = ap (λ (ls : List Lit). length ls) lits1 ∙ length-set ch.lits p m ∙ u.pairs;
              going =
                  arm-free clauses t (watches_of ids ch.lits) ch.lists l u.going p first slot b pl w at clause cl' o o-is to ch'.lists to-lists (subst P lists1 moves)
                  m z has ne free (moved w b m) refl (watches_of ids ch'.lits) list-is;
            }
