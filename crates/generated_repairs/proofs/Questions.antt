-- Where the generated question is true, one of its marks was seen and the file of seven calls before it isn't there.
use Rattle.std.proofs.Common.{◌≡◌, ℕ, zero, suc, ◌+◌, ◌-◌, ◌*◌, ◌≤◌, Bool, true, false, ◌&&◌, ◌||◌, not, List, inl, inr, is_some, refl, sym, ◌∙◌, ap, arith}
use Rattle.std.specs.Prelude.{unwrap_or}
use Rattle.std.proofs.lemmas.Bool.{cases_Bool, and_parts, true≢false}
use Rattle.litmus_syntax.specs.declared.pred.Pred as whole
use Rattle.litmus_syntax.specs.declared.pred.Pred.{Pred, fold-roll-Pred}
use Rattle.litmus_syntax.specs.declared.pred.Pred.TheOpen as atom
use Rattle.litmus_syntax.specs.declared.pred.Pred.TheVariants.{False, Exists, Seen, Not, And, Or}
use Rattle.fer_events.specs.Tables.{Trace}
use Rattle.fer_events.specs.States.{State}
use Rattle.fer_events.specs.Truth.{held_file, item_at, text_number, truth_of, truth}
use Rattle.model_library.specs.Generated.{numbered, path_of, lost_before, generated_pred}

module _ (t : Trace) (s : State) where
  truth_false : truth t s False ≡ false
  unfolding whole.roll-Pred denote.Hole.Carrier.roll
  truth_false = fold-roll-Pred Bool (truth_of t s) atom.False

  truth_seen : (word : List ℕ) → truth t s (Seen word) ≡ unwrap_or (item_at s.seen (text_number t.words word)) false
  unfolding whole.roll-Pred denote.Hole.Carrier.roll
  truth_seen word = fold-roll-Pred Bool (truth_of t s) (atom.Seen word)

  truth_exists : (path : List (List ℕ)) → truth t s (Exists path) ≡ is_some (held_file t s path)
  unfolding whole.roll-Pred denote.Hole.Carrier.roll
  truth_exists path = fold-roll-Pred Bool (truth_of t s) (atom.Exists path)

  truth_not : (p : Pred) → truth t s (Not p) ≡ not (truth t s p)
  unfolding whole.roll-Pred denote.Hole.Carrier.roll
  truth_not p = fold-roll-Pred Bool (truth_of t s) (atom.Not p)

  truth_and : (p q : Pred) → truth t s (And p q) ≡ (truth t s p && truth t s q)
  unfolding whole.roll-Pred denote.Hole.Carrier.roll
  truth_and p q = fold-roll-Pred Bool (truth_of t s) (atom.And p q)

  truth_or : (p q : Pred) → truth t s (Or p q) ≡ (truth t s p || truth t s q)
  unfolding whole.roll-Pred denote.Hole.Carrier.roll
  truth_or p q = fold-roll-Pred Bool (truth_of t s) (atom.Or p q)

  -- the mark of call 8k was seen, and the file of call 8k - 7 isn't there
  pub record IsLost (k : ℕ) : Type 0 where
    pub seen : unwrap_or (item_at s.seen (text_number t.words (numbered 109 (8 * k)))) false ≡ true
    pub gone : is_some (held_file t s (path_of (numbered 110 (8 * k - 7)))) ≡ false

  one_lost : (k : ℕ) → truth t s (lost_before (8 * k)) ≡ true → IsLost k
  one_lost k h =
      let mark : Pred = Seen (numbered 109 (8 * k)) in
      let file : Pred = Exists (path_of (numbered 110 (8 * k - 7))) in
      let both = and_parts (truth t s mark) (truth t s (Not file)) (sym (truth_and mark (Not file)) ∙ h) in
      record {
        seen = sym (truth_seen (numbered 109 (8 * k))) ∙ both.0;
        gone = sym (truth_exists (path_of (numbered 110 (8 * k - 7)))) ∙ not_true (truth t s file) (sym (truth_not file) ∙ both.1);
      }
    where
      not_true : (b : Bool) → not b ≡ true → b ≡ false
      not_true true h = absurd (true≢false (sym h))
      not_true false h = refl

  -- one of the first n marks is lost
  pub some_lost : (n : ℕ) → truth t s (generated_pred n) ≡ true → (k : ℕ) × (1 ≤ k) × (k ≤ n) × IsLost k
  some_lost zero h = absurd (true≢false (sym h ∙ truth_false))
  some_lost (suc zero) h = (1, omega arith, omega arith, one_lost 1 h)
  some_lost (suc (suc n)) h = elim (cases_Bool (truth t s (generated_pred (suc n)))) [
    | inl early ↦ let found = some_lost (suc n) early in (found.0, found.1, omega (arith, found.2), found.3)
    | inr never ↦
        let now : truth t s (lost_before (8 * (n + 2))) ≡ true =
        ap (λ (b : Bool). b || truth t s (lost_before (8 * (n + 2)))) (sym never) ∙ sym (truth_or (generated_pred (suc n)) (lost_before (8 * (n + 2)))) ∙ h in
        (n + 2, omega arith, omega arith, one_lost (n + 2) now)
  ]
