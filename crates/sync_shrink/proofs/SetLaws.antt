-- Laws of sets of things.
use Rattle.std.proofs.Common.{add-one, ◌≡◌, ◌≢◌, ℕ, zero, suc, ◌+◌, ◌<◌, ◌≤◌, List, [], ◌∷◌, ◌++◌, Bool, true, false, Some, None, length, take, set, get_or, refl, sym, ◌∙◌, ap, arith, ◌&&◌, ◌||◌}
use Rattle.std.specs.Prelude.{slice_get, nat_lt}
use Rattle.std.proofs.lemmas.Bool.Decides.{nat_tests}
use Rattle.std.proofs.lemmas.List.{take_more_set, take_more, length-set, take_all}
use Rattle.sync_shrink.specs.Sets.{all_things, without, Has, IsPart, things_from}
use Rattle.sync_shrink.specs.Steps.{at_trial}

-- a thing that was dropped and put back
pub set-back : (s : List Bool) (k : ℕ) → Has s k → set (set s k false) k true ≡ s
set-back [] k h = let e : None ≡ Some true = h in cc
set-back (x ∷ s) zero h = let e : Some x ≡ Some true = h in let v : x ≡ true = cc in ap (λ y. y ∷ s) (sym v)
set-back (x ∷ s) (suc k) h = ap (λ t. x ∷ t) (set-back s k h)

-- a thing of a set is one of its numbers
pub has-within : (s : List Bool) (k : ℕ) → Has s k → k < length s
has-within [] k h = let e : None ≡ Some true = h in cc
has-within (x ∷ s) zero h = omega arith
has-within (x ∷ s) (suc k) h = let i = has-within s k h in omega arith

-- another thing stays
pub has-set : (s : List Bool) (j k : ℕ) (v : Bool) → j < k → Has s j → Has (set s k v) j
has-set [] j k v l h = let e : None ≡ Some true = h in cc
has-set (x ∷ s) j zero v l h = absurd (omega arith)
has-set (x ∷ s) zero (suc k) v l h = h
has-set (x ∷ s) (suc j) (suc k) v l h = has-set s j k v (omega arith) h

-- a thing of a set without one is another thing of the set
pub has-without : (s : List Bool) (j k : ℕ) → Has (without k s) j → Has s j × (j ≢ k)
has-without [] j k h = let e : None ≡ Some true = h in cc
has-without (x ∷ s) zero zero h = let e : Some false ≡ Some true = h in cc
has-without (x ∷ s) (suc j) zero h = (h, omega arith)
has-without (x ∷ s) zero (suc k) h = (h, omega arith)
has-without (x ∷ s) (suc j) (suc k) h = let i = has-without s j k h in (i.0, λ e. i.1 (omega (arith, e)))

-- the set at a thing's trial doesn't change later
pub trial-set : (s : List Bool) (j k : ℕ) (v : Bool) → j ≤ k → at_trial j (set s k v) ≡ at_trial j s
trial-set [] j k v l = refl
trial-set (x ∷ s) zero zero v l = refl
trial-set (x ∷ s) (suc j) zero v l = absurd (omega arith)
trial-set (x ∷ s) zero (suc k) v l = ap (λ t. true ∷ t) (trial-set s zero k v (omega arith))
trial-set (x ∷ s) (suc j) (suc k) v l = ap (λ t. x ∷ t) (trial-set s j k v (omega arith))

-- all things are there at the first trial
pub trial-first : (n : ℕ) → at_trial 0 (all_things n) ≡ all_things n
trial-first zero = refl
trial-first (suc n) = ap (λ t. true ∷ t) (trial-first n)

-- what is there at a thing's trial is there at the next but for the thing
next : (s : List Bool) (k : ℕ) (v : Bool) → at_trial k s ≡ s → at_trial (suc k) (set s k v) ≡ set s k v
next [] k v h = refl
next (x ∷ s) zero v h = let e : true ∷ at_trial 0 s ≡ x ∷ s = h in let r : at_trial 0 s ≡ s = cc in ap (λ t. v ∷ t) r
next (x ∷ s) (suc k) v h = let e : x ∷ at_trial k s ≡ x ∷ s = h in let r : at_trial k s ≡ s = cc in ap (λ t. x ∷ t) (next s k v r)

pub trial-next : (s : List Bool) (k : ℕ) (v : Bool) → at_trial k s ≡ s → at_trial (k + 1) (set s k v) ≡ set s k v
trial-next s k v h = rw add-one (next s k v h)

kept : (s : List Bool) (k : ℕ) → at_trial k s ≡ s → at_trial (suc k) s ≡ s
kept [] k h = refl
kept (x ∷ s) zero h = let e : true ∷ at_trial 0 s ≡ x ∷ s = h in let r : at_trial 0 s ≡ s = cc in ap (λ t. x ∷ t) r
kept (x ∷ s) (suc k) h = let e : x ∷ at_trial k s ≡ x ∷ s = h in let r : at_trial k s ≡ s = cc in ap (λ t. x ∷ t) (kept s k r)

pub trial-kept : (s : List Bool) (k : ℕ) → at_trial k s ≡ s → at_trial (k + 1) s ≡ s
trial-kept s k h = rw add-one (kept s k h)

-- a thing is there at its trial
pub trial-has : (s : List Bool) (k : ℕ) → at_trial k s ≡ s → k < length s → Has s k
trial-has [] k h l = absurd (omega arith)
trial-has (x ∷ s) zero h l = let e : true ∷ at_trial 0 s ≡ x ∷ s = h in cc
trial-has (x ∷ s) (suc k) h l = let e : x ∷ at_trial k s ≡ x ∷ s = h in let r : at_trial k s ≡ s = cc in trial-has s k r (omega arith)

pub length-trial : (s : List Bool) (k : ℕ) → length (at_trial k s) ≡ length s
length-trial [] k = refl
length-trial (x ∷ s) zero = ap suc (length-trial s 0)
length-trial (x ∷ s) (suc k) = ap suc (length-trial s k)

-- a set is a part of itself
pub part-same : (s : List Bool) → IsPart s s
part-same [] = tt
part-same (x ∷ s) = ((λ e. e), part-same s)

-- what is left of a set is a part of it
pub part-without : (s : List Bool) (k : ℕ) → IsPart (without k s) s
part-without [] k = tt
part-without (x ∷ s) zero = ((λ e. let f : false ≡ true = e in cc), part-same s)
part-without (x ∷ s) (suc k) = ((λ e. e), part-without s k)

pub part-trans : (r s t : List Bool) → IsPart r s → IsPart s t → IsPart r t
part-trans [] [] [] a b = tt
part-trans [] [] (z ∷ t) a b = b
part-trans [] (y ∷ s) t a b = absurd a
part-trans (x ∷ r) [] t a b = absurd a
part-trans (x ∷ r) (y ∷ s) [] a b = b
part-trans (x ∷ r) (y ∷ s) (z ∷ t) a b = ((λ e. b.0 (a.0 e)), part-trans r s t a.1 b.1)

-- a set without a thing is a part of the set of that thing's trial without it
pub part-trial : (s : List Bool) (k : ℕ) → IsPart (without k s) (without k (at_trial k s))
part-trial [] k = tt
part-trial (x ∷ s) zero = ((λ e. e), rest s)
  where
    rest : (s : List Bool) → IsPart s (at_trial 0 s)
    rest [] = tt
    rest (x ∷ s) = ((λ _. refl), rest s)
part-trial (x ∷ s) (suc k) = ((λ e. e), part-trial s k)

-- a part that lacks a thing is a part of what is left without it
pub part-lacking : (t s : List Bool) (k : ℕ) → IsPart t s → slice_get t k ≡ Some false → IsPart t (without k s)
part-lacking [] [] k p h = tt
part-lacking [] (y ∷ s) k p h = absurd p
part-lacking (x ∷ t) [] k p h = absurd p
part-lacking (x ∷ t) (y ∷ s) zero p h = let e : Some x ≡ Some false = h in let v : x ≡ false = cc in ((λ w. sym v ∙ w), p.1)
part-lacking (x ∷ t) (y ∷ s) (suc k) p h = (p.0, part-lacking t s k p.1 h)

-- a part that isn't all lacks a thing
pub part-lacks : (t s : List Bool) → IsPart t s → t ≢ s → (k : ℕ) × (slice_get t k ≡ Some false) × Has s k
part-lacks [] [] p h = absurd (h refl)
part-lacks [] (y ∷ s) p h = absurd p
part-lacks (x ∷ t) [] p h = absurd p
part-lacks (true ∷ t) (true ∷ s) p h = let i = part-lacks t s p.1 (λ e. h (ap (λ l. true ∷ l) e)) in (suc i.0, i.1, i.2)
part-lacks (false ∷ t) (false ∷ s) p h = let i = part-lacks t s p.1 (λ e. h (ap (λ l. false ∷ l) e)) in (suc i.0, i.1, i.2)
part-lacks (true ∷ t) (false ∷ s) p h = let e : false ≡ true = p.0 refl in cc
part-lacks (false ∷ t) (true ∷ s) p h = (0, refl, refl)

-- one thing more
pub things-drop : (s : List Bool) (from : ℕ) → things_from from (s ++ false ∷ []) ≡ things_from from s
things-drop [] from = refl
things-drop (true ∷ s) from = ap (λ l. from ∷ l) (things-drop s (from + 1))
things-drop (false ∷ s) from = things-drop s (from + 1)

pub things-keep : (s : List Bool) (from : ℕ) → things_from from (s ++ true ∷ []) ≡ things_from from s ++ (from + length s) ∷ []
things-keep [] from = let e : from ≡ from + 0 = omega arith in ap (λ (k : ℕ). k ∷ []) e
things-keep (true ∷ s) from = let e : from + 1 + length s ≡ from + suc (length s) = omega arith in ap (λ l. from ∷ l) (things-keep s (from + 1) ∙ ap (λ (k : ℕ). things_from (from + 1) s ++ k ∷ []) e)
things-keep (false ∷ s) from = let e : from + 1 + length s ≡ from + suc (length s) = omega arith in things-keep s (from + 1) ∙ ap (λ (k : ℕ). things_from (from + 1) s ++ k ∷ []) e

-- the first things with one more
drop-more : (s : List Bool) (k : ℕ) → k < length s → take (suc k) (set s k false) ≡ take k s ++ false ∷ []
drop-more [] k l = absurd (omega arith)
drop-more (x ∷ s) zero l = refl
drop-more (x ∷ s) (suc k) l = ap (λ t. x ∷ t) (drop-more s k (omega arith))

pub take-drop : (s : List Bool) (k : ℕ) → k < length s → take (k + 1) (set s k false) ≡ take k s ++ false ∷ []
take-drop s k l = rw add-one (drop-more s k l)

keep-more : (s : List Bool) (k : ℕ) → Has s k → take (suc k) s ≡ take k s ++ true ∷ []
keep-more [] k h = let e : None ≡ Some true = h in cc
keep-more (x ∷ s) zero h = let e : Some x ≡ Some true = h in let v : x ≡ true = cc in ap (λ (y : Bool). y ∷ []) v
keep-more (x ∷ s) (suc k) h = ap (λ t. x ∷ t) (keep-more s k h)

pub take-keep : (s : List Bool) (k : ℕ) → Has s k → take (k + 1) s ≡ take k s ++ true ∷ []
take-keep s k h = rw add-one (keep-more s k h)

pub take-length : (s : List Bool) (k : ℕ) → k < length s → length (take k s) ≡ k
take-length [] k l = absurd (omega arith)
take-length (x ∷ s) zero l = refl
take-length (x ∷ s) (suc k) l = ap suc (take-length s k (omega arith))

-- the set of a thing's trial without it, place by place
trial-after : (s : List Bool) (i : ℕ) → i < length s → get_or (at_trial 0 s) i false ≡ true
trial-after [] i l = absurd (omega arith)
trial-after (x ∷ s) zero l = refl
trial-after (x ∷ s) (suc i) l = trial-after s i (omega arith)

pub trial-value : (s : List Bool) (k i : ℕ) → i < length s → get_or (without k (at_trial k s)) i false ≡ (nat_lt k i || (nat_lt i k && get_or s i false))
trial-value [] k i l = absurd (omega arith)
trial-value (x ∷ s) zero zero l = refl
trial-value (x ∷ s) zero (suc i) l = let a : get_or (at_trial 0 s) i false ≡ true = trial-after s i (omega arith) in grind (arith, nat_tests, a)
trial-value (x ∷ s) (suc k) zero l = grind (arith, nat_tests)
trial-value (x ∷ s) (suc k) (suc i) l = let ih = trial-value s k i (omega arith) in grind (arith, nat_tests, ih)

-- a trial that is filled place by place
pub fill-more : (trial kept : List Bool) (k i : ℕ) (v : Bool) → length trial ≡ length kept → i < length kept
    → take i trial ≡ take i (without k (at_trial k kept)) → v ≡ get_or (without k (at_trial k kept)) i false
    → take (i + 1) (set trial i v) ≡ take (i + 1) (without k (at_trial k kept))
fill-more trial kept k i v full l h e =
    let there : length (without k (at_trial k kept)) ≡ length kept = length-set (at_trial k kept) k false ∙ length-trial kept k in
    take_more_set trial i v (omega arith)
    ∙ ap (λ (t : List Bool). t ++ v ∷ []) h
    ∙ ap (λ (b : Bool). take i (without k (at_trial k kept)) ++ b ∷ []) e
    ∙ sym (take_more (without k (at_trial k kept)) i false (omega arith))

pub fill-all : (trial kept : List Bool) (k i : ℕ) → length trial ≡ length kept → length kept ≤ i
    → take i trial ≡ take i (without k (at_trial k kept)) → trial ≡ without k (at_trial k kept)
fill-all trial kept k i full l h =
    let there : length (without k (at_trial k kept)) ≡ length kept = length-set (at_trial k kept) k false ∙ length-trial kept k in
    sym (take_all i trial (omega arith)) ∙ h ∙ take_all i (without k (at_trial k kept)) (omega arith)
