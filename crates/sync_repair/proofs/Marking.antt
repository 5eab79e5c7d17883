-- A set is made again from the numbers of its things.
use Rattle.std.proofs.Common.{◌≡◌, ℕ, zero, suc, ◌+◌, ◌<◌, ◌≤◌, Bool, true, false, List, [], ◌∷◌, ◌++◌, length, map, take, set, get_or, Some, All, Contains, refl, sym, ◌∙◌, ap, subst, inl, inr, arith}
use Rattle.std.specs.Prelude.{replicate, slice_get}
use Rattle.std.proofs.lemmas.List.{length-append, map_more, append_assoc}
use Rattle.std.proofs.Math.Seq.{set-append_seam}
use Rattle.std.proofs.lemmas.List.Elements.{All-nil, All-cons, All-contains, All-head, All-tail}
use Rattle.sync_shrink.specs.declared.walking.Need.{Need}
use Rattle.sync_shrink.specs.Sets.{things_from, things_in}
use Rattle.sync_repair.specs.Marks.{with_things, things_of}

with-more : (things : List ℕ) (marks : List Bool) (x : ℕ) → with_things (things ++ x ∷ []) marks ≡ set (with_things things marks) x true
with-more [] marks x = refl
with-more (thing ∷ things) marks x = with-more things (set marks thing true) x

-- one need more
pub marked-next : (needs : List Need) (start marks : List Bool) (place : ℕ) (d : Need) → place < length needs → marks ≡ with_things (things_of (take place needs)) start
    → set marks (get_or needs place d).thing true ≡ with_things (things_of (take (place + 1) needs)) start
marked-next needs start marks place d there so_far =
    ap (λ (l : List Bool). set l (get_or needs place d).thing true) so_far
    ∙ sym (with-more (things_of (take place needs)) start (get_or needs place d).thing)
    ∙ ap (λ (l : List ℕ). with_things l start) (sym (map_more (λ (need : Need). need.thing) needs place d there))

longer : (xs : List Bool) (b : Bool) (n : ℕ) → length xs ≡ n → length (xs ++ b ∷ []) ≡ n + 1
longer xs b n e = let more = length-append xs (b ∷ []) in omega (arith, more, e)

-- behind a part that is marked
marked-behind : (front back : List Bool) (from : ℕ) → length front ≡ from → with_things (things_from from back) (front ++ replicate (length back) false) ≡ front ++ back
marked-behind front [] from count = refl
marked-behind front (true ∷ back) from count =
    let rest : List Bool = replicate (length back) false in
    let here : set (front ++ false ∷ rest) from true ≡ front ++ true ∷ rest =
    ap (λ (n : ℕ). set (front ++ false ∷ rest) n true) (sym count) ∙ set-append_seam front false rest true in
    ap (with_things (things_from (from + 1) back)) (here ∙ sym (append_assoc front (true ∷ []) rest))
    ∙ marked-behind (front ++ true ∷ []) back (from + 1) (longer front true from count)
    ∙ append_assoc front (true ∷ []) back
marked-behind front (false ∷ back) from count =
    let rest : List Bool = replicate (length back) false in
    ap (with_things (things_from (from + 1) back)) (sym (append_assoc front (false ∷ []) rest))
    ∙ marked-behind (front ++ false ∷ []) back (from + 1) (longer front false from count)
    ∙ append_assoc front (false ∷ []) back

pub marked-all : (s : List Bool) → with_things (things_in s) (replicate (length s) false) ≡ s
marked-all s = marked-behind [] s 0 refl

-- the things of a set are among all things
things-below : (from n : ℕ) (s : List Bool) → from + length s ≤ n → All (λ thing. thing < n) (things_from from s)
things-below from n [] le = All-nil (λ thing. thing < n)
things-below from n (true ∷ s) le =
    All-cons (λ thing. thing < n) from (things_from (from + 1) s) (omega (arith, le)) (things-below (from + 1) n s (omega (arith, le)))
things-below from n (false ∷ s) le = things-below (from + 1) n s (omega (arith, le))

all-of : (n : ℕ) (needs : List Need) → All (λ thing. thing < n) (things_of needs) → All (λ need. need.thing < n) needs
all-of n [] all = All-nil (λ need. need.thing < n)
all-of n (need ∷ needs) all =
    All-cons (λ x. x.thing < n) need needs (All-head (λ thing. thing < n) need.thing (things_of needs) all) (all-of n needs (All-tail (λ thing. thing < n) need.thing (things_of needs) all))

pub needs-below : (s : List Bool) (n : ℕ) (needs : List Need) → length s ≡ n → things_of needs ≡ things_in s → All (λ need. need.thing < n) needs
needs-below s n needs count same =
    all-of n needs (subst (λ (l : List ℕ). All (λ thing. thing < n) l) (sym same) (things-below 0 n s (omega (arith, count))))
