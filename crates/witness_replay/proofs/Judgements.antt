-- From the places of events to what a crash is judged to be.
use Rattle.std.proofs.Common.{◌≡◌, ℕ, ◌<◌, ◌≤◌, ◌⊎◌, inl, inr, List, length, Contains, IsPermutation, ◌≢◌, Bool, true, false, refl, sym, ◌∙◌, ap, subst, arith}
use Rattle.litmus_syntax.specs.declared.pred.Pred.{Pred}
use Rattle.fer_events.specs.declared.event.Event.{Event}
use Rattle.fer_events.specs.declared.event.Crash.{Crash}
use Rattle.fer_events.specs.Orders.{numbers, before_cut, SameTransaction, IsValidOrder, IsCrash}
use Rattle.fer_events.specs.Pairs.{PairList, IsListed}
use Rattle.std.proofs.Math.Bool.{beq}
use Rattle.fer_events.specs.Tables.{Trace}
use Rattle.fer_events.specs.States.{after_crash}
use Rattle.fer_events.specs.Truth.{truth}
use Rattle.order_coding.proofs.GeneralLists.{order-of}
use Rattle.order_coding.proofs.Transactions.{number-of}
use Rattle.witness_replay.specs.declared.judgement.CrashJudgement.{CrashJudgement}
use Rattle.witness_replay.specs.declared.judgement.CrashJudgement.TheVariants.{Good, PairBroken, TransactionSplit, PredicateFalse}
use Rattle.witness_replay.specs.Judging.{IsOrder, IsJudged, good, no_order, broken, split, untrue, IsBroken, IsFirstBroken, IsSplit, IsFirstSplit}
use Rattle.witness_replay.specs.Places.{ArePlaces, place_in, IsMisplaced, IsFirstMisplaced, IsParted}
use Rattle.witness_replay.proofs.PlacesOfOrders.{kept_within}

pub same_bits : (p q : Bool) → beq p q ≡ true → p ≡ q
same_bits true true h = refl
same_bits true false h = cc
same_bits false true h = cc
same_bits false false h = refl

pub other_bits : (p q : Bool) → beq p q ≡ false → p ≢ q
other_bits true true h = absurd cc
other_bits true false h = λ e. cc
other_bits false true h = λ e. cc
other_bits false false h = absurd cc

-- the least of two pairs each is up to the other
same_pair : (a b c d : ℕ) → (a < c) ⊎ ((a ≡ c) × (b ≤ d)) → (c < a) ⊎ ((c ≡ a) × (d ≤ b)) → (a ≡ c) × (b ≡ d)
same_pair a b c d (inl l) (inl m) = absurd (omega arith)
same_pair a b c d (inl l) (inr m) = absurd (omega (arith, m.0))
same_pair a b c d (inr l) (inl m) = absurd (omega (arith, l.0))
same_pair a b c d (inr l) (inr m) = (l.0, omega (arith, l.1, m.1))

-- a crash splits no transaction
unsplit : (events : List Event) (kept : List (ℕ × ℕ)) (crash : Crash) (txn : ℕ) → IsCrash events kept crash → IsSplit events crash txn → ⊥
unsplit events kept crash txn is (a, b, (e, is_e, of_a), before, (f, is_f, of_b), outside) =
    outside (is.whole a b (e, f, is_e, is_f, of_a ∙ sym of_b) before)

less_or_not : (x y : ℕ) → (x < y) ⊎ (y ≤ x)
less_or_not x y = elim (order-of x y) [ inl less ↦ inl less | inr (inl same) ↦ inr (omega arith) | inr (inr more) ↦ inr (omega arith) ]

module _ (p : PairList) (order places : List ℕ) (listed : IsListed p) (tell : ArePlaces p.n order places) where
  misplaced_breaks : (a b : ℕ) → IsMisplaced p.pairs places a b → IsBroken p.pairs order a b
  misplaced_breaks a b (kept, behind) =
      let is = kept_within p a b listed kept in
      (kept, λ stands. omega (arith, (tell.before a b is.0 is.1).1 stands, behind))

  breaks_misplaced : (a b : ℕ) → IsBroken p.pairs order a b → IsMisplaced p.pairs places a b
  breaks_misplaced a b (kept, not_before) =
      let is = kept_within p a b listed kept in
      elim (less_or_not (place_in places a) (place_in places b)) [
        | inl less ↦ absurd (not_before ((tell.before a b is.0 is.1).0 less))
        | inr behind ↦ (kept, behind)
      ]

  -- the first misplaced pair is the first that is broken
  pub first_broken : (a b : ℕ) → IsFirstMisplaced p.pairs places a b → IsFirstBroken p.pairs order a b
  first_broken a b (here, least) = (misplaced_breaks a b here, λ c d other. least c d (breaks_misplaced c d other))

  -- where no pair is misplaced, the order is valid
  pub is_valid : IsPermutation (numbers p.n) order → ((a b : ℕ) → IsMisplaced p.pairs places a b → ⊥) → IsValidOrder p.n p.pairs order
  is_valid permutes none = record {
    permutes = permutes;
    keeps = λ a b kept.
        let is = kept_within p a b listed kept in
        elim (less_or_not (place_in places a) (place_in places b)) [
          | inl less ↦ (tell.before a b is.0 is.1).0 less
          | inr behind ↦ absurd (none a b (kept, behind))
        ];
  }

module _ (events : List Event) (crash : Crash) (places : List ℕ) (tell : ArePlaces (length events) crash.order places) where
  parted_splits : (txn : ℕ) → IsParted events places crash.cut txn → IsSplit events crash txn
  parted_splits txn (a, b, (e, is_e, of_a), before, (f, is_f, of_b), behind) = (
    a,
    b,
    (e, is_e, of_a),
    (tell.inside crash.cut a (number-of events a e is_e)).0 before,
    (f, is_f, of_b),
    λ inside. omega (arith, (tell.inside crash.cut b (number-of events b f is_f)).1 inside, behind),
  )

  splits_parted : (txn : ℕ) → IsSplit events crash txn → IsParted events places crash.cut txn
  splits_parted txn (a, b, (e, is_e, of_a), before, (f, is_f, of_b), outside) =
      let at = (tell.inside crash.cut a (number-of events a e is_e)).1 before in
      elim (less_or_not (place_in places b) crash.cut) [
        | inl less ↦ absurd (outside ((tell.inside crash.cut b (number-of events b f is_f)).0 less))
        | inr behind ↦ (a, b, (e, is_e, of_a), at, (f, is_f, of_b), behind)
      ]

  -- the least transaction that is parted is the least that is split
  pub first_split : (txn : ℕ) → IsParted events places crash.cut txn × ((other : ℕ) → IsParted events places crash.cut other → txn ≤ other) → IsFirstSplit events crash txn
  first_split txn (here, least) = (parted_splits txn here, λ other is. least other (splits_parted other is))

  -- where none is parted, each is whole
  pub is_whole : ((txn : ℕ) → IsParted events places crash.cut txn → ⊥)
      → (a b : ℕ) → SameTransaction events a b → Contains (before_cut crash) a → Contains (before_cut crash) b
  is_whole none a b (e, f, is_e, is_f, same) before =
      let at = (tell.inside crash.cut a (number-of events a e is_e)).1 before in
      elim (less_or_not (place_in places b) crash.cut) [
        | inl less ↦ (tell.inside crash.cut b (number-of events b f is_f)).0 less
        | inr behind ↦ absurd (none e.txn (a, b, (e, is_e, refl), at, (f, is_f, sym same), behind))
      ]

-- what `judge` knows once the order is one of the events, with its places
module _
    (t : Trace) (p : PairList) (pred : Pred) (want : Bool) (crash : Crash) (n : ℕ) (order places : List ℕ)
    (counted : p.n ≡ length t.events) (is_n : n ≡ p.n) (is_order : order ≡ crash.order) (listed : IsListed p)
    (ordered : IsOrder n crash) (tell : ArePlaces n order places) where
  told : ArePlaces p.n crash.order places
  told = subst (λ (xs : List ℕ). ArePlaces p.n xs places) is_order (subst (λ (k : ℕ). ArePlaces k order places) is_n tell)

  told_of_events : ArePlaces (length t.events) crash.order places
  told_of_events = subst (λ (k : ℕ). ArePlaces k crash.order places) counted told

  ordered_of_pairs : IsOrder p.n crash
  ordered_of_pairs = subst (λ (k : ℕ). IsOrder k crash) is_n ordered

  ordered_of_events : IsOrder (length t.events) crash
  ordered_of_events = subst (λ (k : ℕ). IsOrder k crash) counted ordered_of_pairs

  valid : ((a b : ℕ) → IsMisplaced p.pairs places a b → ⊥) → IsValidOrder (length t.events) p.pairs crash.order
  valid none = subst (λ (k : ℕ). IsValidOrder k p.pairs crash.order) counted (is_valid p crash.order places listed told ordered_of_pairs.0 none)

  crashes : ((a b : ℕ) → IsMisplaced p.pairs places a b → ⊥) → ((txn : ℕ) → IsParted t.events places crash.cut txn → ⊥) → IsCrash t.events p.pairs crash
  crashes unbroken unsplit = record {
    valid = valid unbroken;
    within = ordered_of_events.1;
    whole = is_whole t.events crash places told_of_events unsplit;
  }

  pub judged_broken : (a b : ℕ) → IsFirstMisplaced p.pairs places a b → IsJudged t p.pairs pred want crash (PairBroken a b)
  judged_broken a b first = broken a b ordered_of_events (first_broken p crash.order places listed told a b first)

  pub judged_split : (txn : ℕ) → ((a b : ℕ) → IsMisplaced p.pairs places a b → ⊥)
      → IsParted t.events places crash.cut txn × ((other : ℕ) → IsParted t.events places crash.cut other → txn ≤ other)
      → IsJudged t p.pairs pred want crash (TransactionSplit txn)
  judged_split txn unbroken first = split txn (valid unbroken) ordered_of_events.1 (first_split t.events crash places told_of_events txn first)

  pub judged_good : ((a b : ℕ) → IsMisplaced p.pairs places a b → ⊥) → ((txn : ℕ) → IsParted t.events places crash.cut txn → ⊥)
      → truth t (after_crash t crash) pred ≡ want → IsJudged t p.pairs pred want crash Good
  judged_good unbroken unsplit answers = good (record { crashes = crashes unbroken unsplit; answers = answers })

  pub judged_untrue : ((a b : ℕ) → IsMisplaced p.pairs places a b → ⊥) → ((txn : ℕ) → IsParted t.events places crash.cut txn → ⊥)
      → truth t (after_crash t crash) pred ≢ want → IsJudged t p.pairs pred want crash PredicateFalse
  judged_untrue unbroken unsplit wrong = untrue (crashes unbroken unsplit) wrong

-- two judgements of one crash are one
pub same_judgement : (t : Trace) (kept : List (ℕ × ℕ)) (pred : Pred) (want : Bool) (crash : Crash) (x y : CrashJudgement)
    → IsJudged t kept pred want crash x → IsJudged t kept pred want crash y → x ≡ y
same_judgement t kept pred want crash x y (good witness) (good other) = refl
same_judgement t kept pred want crash x y (good witness) (no_order not) = absurd (not (witness.crashes.valid.permutes, witness.crashes.within))
same_judgement t kept pred want crash x y (good witness) (broken a b is first) = absurd (first.0.1 (witness.crashes.valid.keeps a b first.0.0))
same_judgement t kept pred want crash x y (good witness) (split txn v l first) = absurd (unsplit t.events kept crash txn witness.crashes first.0)
same_judgement t kept pred want crash x y (good witness) (untrue is wrong) = absurd (wrong witness.answers)
same_judgement t kept pred want crash x y (no_order not) (good witness) = absurd (not (witness.crashes.valid.permutes, witness.crashes.within))
same_judgement t kept pred want crash x y (no_order not) (no_order other) = refl
same_judgement t kept pred want crash x y (no_order not) (broken a b is first) = absurd (not is)
same_judgement t kept pred want crash x y (no_order not) (split txn v l first) = absurd (not (v.permutes, l))
same_judgement t kept pred want crash x y (no_order not) (untrue is wrong) = absurd (not (is.valid.permutes, is.within))
same_judgement t kept pred want crash x y (broken a b is first) (good witness) = absurd (first.0.1 (witness.crashes.valid.keeps a b first.0.0))
same_judgement t kept pred want crash x y (broken a b is first) (no_order not) = absurd (not is)
same_judgement t kept pred want crash x y (broken a b is first) (broken c d is' first') =
    let pairs = same_pair a b c d (first.1 c d first'.0) (first'.1 a b first.0) in
    ap (λ (k : ℕ). PairBroken k b) pairs.0 ∙ ap (λ (k : ℕ). PairBroken c k) pairs.1
same_judgement t kept pred want crash x y (broken a b is first) (split txn v l first') = absurd (first.0.1 (v.keeps a b first.0.0))
same_judgement t kept pred want crash x y (broken a b is first) (untrue is' wrong) = absurd (first.0.1 (is'.valid.keeps a b first.0.0))
same_judgement t kept pred want crash x y (split txn v l first) (good witness) = absurd (unsplit t.events kept crash txn witness.crashes first.0)
same_judgement t kept pred want crash x y (split txn v l first) (no_order not) = absurd (not (v.permutes, l))
same_judgement t kept pred want crash x y (split txn v l first) (broken a b is first') = absurd (first'.0.1 (v.keeps a b first'.0.0))
same_judgement t kept pred want crash x y (split txn v l first) (split other v' l' first') =
    let same : txn ≡ other = omega (arith, first.1 other first'.0, first'.1 txn first.0) in
    ap TransactionSplit same
same_judgement t kept pred want crash x y (split txn v l first) (untrue is wrong) = absurd (unsplit t.events kept crash txn is first.0)
same_judgement t kept pred want crash x y (untrue is wrong) (good witness) = absurd (wrong witness.answers)
same_judgement t kept pred want crash x y (untrue is wrong) (no_order not) = absurd (not (is.valid.permutes, is.within))
same_judgement t kept pred want crash x y (untrue is wrong) (broken a b is' first) = absurd (first.0.1 (is.valid.keeps a b first.0.0))
same_judgement t kept pred want crash x y (untrue is wrong) (split txn v l first) = absurd (unsplit t.events kept crash txn is first.0)
same_judgement t kept pred want crash x y (untrue is wrong) (untrue is' wrong') = refl
