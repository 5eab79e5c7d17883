-- The test that the tests run keeps to the limits of a litmus test.
use Rattle.std.proofs.Common.{◌≡◌, ℕ, zero, suc, ◌≤◌, Bool, true, false, ◌&&◌, IsTrue, List, [], ◌∷◌, replicate, refl, inr, arith}
use Rattle.std.proofs.lemmas.List.Elements.{All-nil, All-cons}
use Rattle.litmus_syntax.specs.declared.call.Call.TheVariants.{Create, Write, Begin, Commit}
use Rattle.litmus_syntax.specs.declared.call.Step.{Step}
use Rattle.litmus_syntax.specs.declared.pred.Pred as whole
use Rattle.litmus_syntax.specs.declared.pred.Pred.{Pred, fold-roll-Pred}
use Rattle.litmus_syntax.specs.declared.pred.Pred.TheOpen as atom
use Rattle.litmus_syntax.specs.declared.pred.Pred.TheVariants.{True}
use Rattle.litmus_syntax.specs.CallKinds.{is_setup_call, is_body_call}
use Rattle.litmus_syntax.specs.Counts.{Counts, counts, counts_of, constant_counts}
use Rattle.litmus_syntax.specs.Forms.{is_byte_text, is_formed_call, is_formed_of, is_formed_pred}
use Rattle.litmus_syntax.specs.Limits.{IsWithinLimits}
use Rattle.litmus_syntax.specs.Test.{Test}
use Rattle.call_rows.specs.Rows.{name_path, row_step, setup_steps, body_steps}

bytes_formed : (len : ℕ) → is_byte_text (replicate len 65) ≡ true
bytes_formed zero = refl
bytes_formed (suc len) = bytes_formed len

true_formed : is_formed_pred True ≡ true
unfolding whole.roll-Pred denote.Hole.Carrier.roll
true_formed = fold-roll-Pred Bool is_formed_of atom.True

true_counts : counts True ≡ constant_counts
unfolding whole.roll-Pred denote.Hole.Carrier.roll
true_counts = fold-roll-Pred Counts counts_of atom.True

abbrev pub row_test : ℕ → ℕ → ℕ → Test
row_test block sector len = record {
  name = 116 ∷ [];
  block = block;
  setup = setup_steps;
  body = body_steps (replicate len 65);
  want = true;
  pred = True;
  pred_line = 13;
  version = 2;
  sector = sector;
}

pub row_limits : (block sector len : ℕ) → 1 ≤ sector → sector ≤ block → block ≤ 65536 → IsWithinLimits (row_test block sector len)
row_limits block sector len some within most =
    let P : Step → Type 0 = λ step. IsTrue (is_setup_call step.call && is_formed_call step.call) in
    let Q : Step → Type 0 = λ step. IsTrue (is_body_call step.call && is_formed_call step.call) in
    let write : Step = row_step 6 (Write (name_path 102) 0 (replicate 8 97)) in
    let commit : List Step = row_step 12 Commit ∷ [] in
    let second : List Step = row_step 11 (Create (name_path 98)) ∷ commit in
    let first : List Step = row_step 10 (Create (name_path 97)) ∷ second in
    let begin : List Step = row_step 9 Begin ∷ first in
    record {
      name = refl {a = true};
      version = inr refl;
      some_sector = some;
      sector = within;
      block = most;
      one_size = λ h. absurd (omega arith);
      setup = All-cons P (row_step 5 (Create (name_path 102))) (write ∷ []) (refl {a = true}) (All-cons P write [] (refl {a = true}) (All-nil P));
      few_setup = omega arith;
      body =
          All-cons Q (row_step 8 (Write (name_path 102) 0 (replicate len 65))) begin (bytes_formed len)
          (All-cons Q (row_step 9 Begin) first (refl {a = true})
          (All-cons Q (row_step 10 (Create (name_path 97))) second (refl {a = true})
          (All-cons Q (row_step 11 (Create (name_path 98))) commit (refl {a = true})
          (All-cons Q (row_step 12 Commit) [] (refl {a = true}) (All-nil Q)))));
      few_body = omega arith;
      placed = refl {a = true};
      closed = refl {a = false};
      no_transactions = λ h. absurd (omega arith);
      pred = true_formed;
      short = record { texts = rw true_counts (omega arith); words = rw true_counts (omega arith); nots = rw true_counts (omega arith); depth = rw true_counts (omega arith) };
    }
