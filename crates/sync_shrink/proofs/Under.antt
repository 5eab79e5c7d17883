-- The walk, step by step.
use Rattle.std.proofs.Common.{◌≡◌, ℕ, ◌+◌, ◌<◌, List, [], ◌∷◌, ◌++◌, Bool, true, false, Option, Some, None, length, take, set, refl, sym, ◌∙◌, ap, arith, subst}
use Rattle.std.specs.Prelude.{All}
use Rattle.std.proofs.lemmas.List.{map-append, length-replicate, length-set}
use Rattle.std.proofs.lemmas.List.Elements.{All-nil, All-push, All-weaker}
use Rattle.fer_events.specs.declared.event.Crash.{Crash}
use Rattle.sync_shrink.specs.declared.walking.Need.{Need}
use Rattle.sync_shrink.specs.Sets.{all_things, without, Has, things_in}
use Rattle.sync_shrink.specs.Walk.{Walk, IsReply, IsSpent, IsNeed}
use Rattle.sync_shrink.specs.Walk.Walk.{begin, dropped, needed}
use Rattle.sync_shrink.specs.Walk.IsAsked.{all, next}
use Rattle.sync_shrink.specs.declared.asking.Reply.{Reply}
use Rattle.sync_shrink.specs.declared.asking.Reply.TheVariants.{Bad, Fine}
use Rattle.sync_shrink.specs.Steps.{IsTried, IsEarlyNeed, IsUnderWay}
use Rattle.sync_shrink.proofs.SetLaws.{has-set, trial-set, trial-first, trial-next, trial-kept, trial-has, things-drop, things-keep, take-drop, take-keep, take-length}

-- the walk begins with all things
pub under-begin : (bad : List Bool → Type 0) (shows : List Bool → Crash → Type 0) (n : ℕ) → (bad (all_things n) → ⊥)
    → IsUnderWay bad shows n 0 (all_things n) []
under-begin bad shows n fine = record {
  walk = begin fine;
  full = length-replicate n true;
  rest = trial-first n;
  things = refl;
  shown = All-nil (IsEarlyNeed shows 0 (all_things n));
}

-- an earlier need stays one
need-later : (shows : List Bool → Crash → Type 0) (k : ℕ) (s : List Bool) (v : Bool) (need : Need)
    → IsEarlyNeed shows k s need → IsEarlyNeed shows (k + 1) (set s k v) need
need-later shows k s v need h = record {
  below = let b = h.below in omega arith;
  has = has-set s need.thing k v h.below h.has;
  shown = let b = h.below in subst (λ t. shows (without need.thing t) need.crash) (sym (trial-set s need.thing k v (omega arith))) h.shown;
}

need-kept : (shows : List Bool → Crash → Type 0) (k : ℕ) (s : List Bool) (need : Need)
    → IsEarlyNeed shows k s need → IsEarlyNeed shows (k + 1) s need
need-kept shows k s need h = record {
  below = let b = h.below in omega arith;
  has = h.has;
  shown = h.shown;
}

-- a thing is dropped
pub under-dropped : (bad : List Bool → Type 0) (shows : List Bool → Crash → Type 0) (n k : ℕ) (s : List Bool) (needs : List Need) → k < n
    → IsUnderWay bad shows n k s needs → (bad (without k s) → ⊥) → IsUnderWay bad shows n (k + 1) (without k s) needs
under-dropped bad shows n k s needs l h fine =
    let f : length s ≡ n = h.full in
    record {
      walk = dropped k s h.walk fine;
      full = length-set s k false ∙ h.full;
      rest = trial-next s k false h.rest;
      things = h.things ∙ sym (ap things_in (take-drop s k (omega arith)) ∙ things-drop (take k s) 0);
      shown = All-weaker (IsEarlyNeed shows k s) (IsEarlyNeed shows (k + 1) (without k s)) (need-later shows k s false) needs h.shown;
    }

-- a thing is needed
pub under-needed : (bad : List Bool → Type 0) (shows : List Bool → Crash → Type 0) (n k : ℕ) (s : List Bool) (needs : List Need) (crash : Crash) → k < n
    → IsUnderWay bad shows n k s needs → bad (without k s) → shows (without k s) crash
    → IsUnderWay bad shows n (k + 1) s (needs ++ record { thing = k; crash = crash } ∷ [])
under-needed bad shows n k s needs crash l h is shown =
    let f : length s ≡ n = h.full in
    let has : Has s k = trial-has s k h.rest (omega arith) in
    let number : 0 + length (take k s) ≡ k = let t = take-length s k (omega arith) in omega (arith, t) in
    let need : Need = record { thing = k; crash = crash } in
    let thing : Need → ℕ = λ need. need.thing in
    let early : IsEarlyNeed shows (k + 1) s need = record {
      below = omega arith;
      has = has;
      shown = subst (λ t. shows (without k t) crash) (sym h.rest) shown;
    } in
    record {
      walk = needed k s h.walk is;
      full = h.full;
      rest = trial-kept s k h.rest;
      things = map-append thing needs (need ∷ []) ∙ ap (λ (l : List ℕ). l ++ k ∷ []) h.things
          ∙ sym (ap things_in (take-keep s k has) ∙ things-keep (take k s) 0 ∙ ap (λ (j : ℕ). things_in (take k s) ++ j ∷ []) number);
      shown = All-push (IsEarlyNeed shows (k + 1) s) needs need (All-weaker (IsEarlyNeed shows k s) (IsEarlyNeed shows (k + 1) s) (need-kept shows k s) needs h.shown) early;
    }

-- what a thing's question came to
pub tried-some : (bad : List Bool → Type 0) (shows : List Bool → Crash → Type 0) (k : ℕ) (s t : List Bool) (o : Option Crash) (crash : Crash)
    → IsTried bad shows k s t o → o ≡ Some crash → (t ≡ s) × shows (without k s) crash
tried-some bad shows k s t o crash h e = subst (IsTried bad shows k s t) e h

pub tried-none : (bad : List Bool → Type 0) (shows : List Bool → Crash → Type 0) (k : ℕ) (s t : List Bool) (o : Option Crash)
    → IsTried bad shows k s t o → o ≡ None → (t ≡ without k s) × (bad (without k s) → ⊥)
tried-none bad shows k s t o h e = subst (IsTried bad shows k s t) e h

-- the same set and needs
pub under-same : (bad : List Bool → Type 0) (shows : List Bool → Crash → Type 0) (n k : ℕ) (s t : List Bool) (needs later : List Need)
    → IsUnderWay bad shows n k s needs → t ≡ s → later ≡ needs → IsUnderWay bad shows n k t later
under-same bad shows n k s t needs later h e f =
    subst (λ l. IsUnderWay bad shows n k l later) (sym e) (subst (λ l. IsUnderWay bad shows n k s l) (sym f) h)

-- what all things' question came to
pub reply-bad : (bad : List Bool → Type 0) (shows : List Bool → Crash → Type 0) (s t : List Bool) (r : Reply) (crash : Crash)
    → IsReply bad shows s r → r ≡ Bad crash → s ≡ t → shows t crash
reply-bad bad shows s t r crash h e f = subst (λ l. shows l crash) f (subst (IsReply bad shows s) e h)

pub reply-fine : (bad : List Bool → Type 0) (shows : List Bool → Crash → Type 0) (s t : List Bool) (r : Reply)
    → IsReply bad shows s r → r ≡ Fine → s ≡ t → bad t → ⊥
reply-fine bad shows s t r h e f b = (subst (IsReply bad shows s) e h) (subst bad (sym f) b)

-- a question that was spent is one of the walk's
pub spent-all : (bad : List Bool → Type 0) (n : ℕ) (s : List Bool) (spent : Option (List Bool)) → s ≡ all_things n → spent ≡ Some s → IsSpent bad n spent
spent-all bad n s spent e f = subst (IsSpent bad n) (sym (f ∙ ap Some e)) all

pub spent-next : (bad : List Bool → Type 0) (n k : ℕ) (s : List Bool) (spent : Option (List Bool)) → k < n → Walk bad n k s → spent ≡ Some (without k s) → IsSpent bad n spent
spent-next bad n k s spent l w f = subst (IsSpent bad n) (sym f) (next k s l w)

-- needs whose crashes show the same
pub early-over : (shows others : List Bool → Crash → Type 0) → ((s : List Bool) (crash : Crash) → shows s crash → others s crash)
    → (k : ℕ) (s : List Bool) (needs : List Need) → All (IsEarlyNeed shows k s) needs → All (IsEarlyNeed others k s) needs
early-over shows others same k s needs h =
    All-weaker (IsEarlyNeed shows k s) (IsEarlyNeed others k s) (λ need i. record { below = i.below; has = i.has; shown = same _ _ i.shown }) needs h

pub needs-over : (shows others : List Bool → Crash → Type 0) → ((s : List Bool) (crash : Crash) → shows s crash → others s crash)
    → (s : List Bool) (needs : List Need) → All (IsNeed shows s) needs → All (IsNeed others s) needs
needs-over shows others same s needs h =
    All-weaker (IsNeed shows s) (IsNeed others s) (λ need i. record { has = i.has; shown = same _ _ i.shown }) needs h

-- all things' truth values
pub filled : (xs : List Bool) (n : ℕ) → (((y : Bool) → y ≡ true → y ≡ true) → xs ≡ all_things n) → xs ≡ all_things n
filled xs n h = h (λ y e. e)
