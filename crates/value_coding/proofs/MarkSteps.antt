-- What a mark more says.
use Rattle.std.proofs.Common.{◌≡◌, ◌≢◌, ℕ, ◌+◌, ◌<◌, ◌≤◌, inl, inr, Bool, true, false, ◌&&◌, ◌||◌, leb, ltb, eqb, List, [], ◌∷◌, length, take, min, get_or, refl, sym, ◌∙◌, ap, arith, get_or-set_same, get_or-set_other}
use Rattle.std.specs.List.{flat_map}
use Rattle.std.proofs.Math.ListN.{set}
use Rattle.std.proofs.Math.Seq.{take-length}
use Rattle.std.proofs.lemmas.Bool.{cases_eq}
use Rattle.std.proofs.lemmas.Bool.Decides.{nat_tests}
use Rattle.std.proofs.lemmas.List.{take_more}
use Rattle.std.proofs.lemmas.List.Folds.{list_any-append, list_any_more}
use Rattle.std.proofs.lemmas.Grind.{flat_map-append}
use Rattle.order_coding.proofs.GeneralGrowth.{append-nil}
use Rattle.value_coding.specs.Marks.{marked}
use Rattle.value_coding.specs.Runs.{is_edge}
use Rattle.value_coding.specs.declared.reading.Part.{Part}
use Rattle.value_coding.specs.Segments.{has_place, is_in_part}

or-true : (b : Bool) → (b || true) ≡ true
or-true true = refl
or-true false = refl

or-assoc : (a b c : Bool) → ((a || b) || c) ≡ (a || (b || c))
or-assoc true b c = refl
or-assoc false b c = refl

pub or_none : (b : Bool) → b ≡ (b || false)
or_none true = refl
or_none false = refl

in-next : (start k p : ℕ) → p ≢ k → (leb start p && ltb p k) ≡ (leb start p && ltb p (k + 1))
in-next start k p ne = grind (arith, nat_tests)

pub place_more :
    (marks : List Bool) (b : Bool) (start k p : ℕ) → start ≤ k → k < length marks
    → marked marks p ≡ (b || (leb start p && ltb p k)) → marked (set marks k true) p ≡ (b || (leb start p && ltb p (k + 1)))
place_more marks b start k p l h e = elim (cases_eq p k) [
  | inl same ↦
      let yes_in : (leb start p && ltb p (k + 1)) ≡ true = grind (arith, nat_tests) in
      ap (λ (i : ℕ). get_or (set marks k true) i false) same ∙ get_or-set_same marks k true false h ∙ sym (or-true b)
      ∙ ap (λ (c : Bool). b || c) (sym yes_in)
  | inr ne ↦ get_or-set_other marks k p true false ne ∙ e ∙ ap (λ (c : Bool). b || c) (in-next start k p ne)
]

pub places_all :
    (start end stop first k p n : ℕ) → stop ≡ min end n → first ≡ min start stop → k ≡ stop → p < n
    → (leb first p && ltb p k) ≡ (leb start p && ltb p end)
places_all start end stop first k p n e f g l = grind (arith, nat_tests)

pub behind_more :
    (parts : List Part) (i p : ℕ) (d : Part) → i < length parts → is_in_part (take i parts) p ≡ false
    → has_place p (get_or parts i d) ≡ false → is_in_part (take (i + 1) parts) p ≡ false
behind_more parts i p d l e f =
    list_any_more (has_place p) parts i d l ∙ ap (λ (b : Bool). b || has_place p (get_or parts i d)) e ∙ f

pub behind_all :
    (parts : List Part) (i p : ℕ) → i ≡ length parts → is_in_part (take i parts) p ≡ false
    → is_in_part parts p ≡ false
behind_all parts i p e f =
    ap (λ (ps : List Part). is_in_part ps p) (sym (take-length parts) ∙ ap (λ (k : ℕ). take k parts) (sym e)) ∙ f

pub edges_more :
    {A : Type 0} (f : A → List ℕ) (xs : List A) (i p : ℕ) (d : A) (b m new : Bool) → i < length xs
    → m ≡ (b || is_edge (flat_map f (take i xs)) p) → new ≡ (m || is_edge (f (get_or xs i d)) p)
    → new ≡ (b || is_edge (flat_map f (take (i + 1) xs)) p)
edges_more {A} f xs i p d b m new l e h =
    let test : ℕ → Bool = λ edge. eqb edge p in
    let more : is_edge (flat_map f (take (i + 1) xs)) p ≡ (is_edge (flat_map f (take i xs)) p || is_edge (f (get_or xs i d)) p) =
    ap (λ (ys : List A). is_edge (flat_map f ys) p) (take_more xs i d l)
    ∙ ap (λ (ys : List ℕ). is_edge ys p) (flat_map-append f (take i xs) (get_or xs i d ∷ []))
    ∙ list_any-append (λ edge. eqb edge p) (flat_map f (take i xs)) (flat_map f (get_or xs i d ∷ []))
    ∙ ap (λ (ys : List ℕ). is_edge (flat_map f (take i xs)) p || is_edge ys p) (append-nil (f (get_or xs i d))) in
    h ∙ ap (λ (c : Bool). c || is_edge (f (get_or xs i d)) p) e
    ∙ or-assoc b (is_edge (flat_map f (take i xs)) p) (is_edge (f (get_or xs i d)) p) ∙ ap (λ (c : Bool). b || c) (sym more)
