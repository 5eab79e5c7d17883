-- What every litmus test keeps to: the forms of its parts, and how many there may be.
use Rattle.std.specs.Prelude.{◌≡◌, ◌⊎◌, ◌≤◌, ◌&&◌, Bool, false, length, map, All, IsTrue}
use Rattle.text_scan.specs.Forms.{is_word}
use Rattle.litmus_syntax.specs.Test.{Test}
use Rattle.litmus_syntax.specs.CallKinds.{is_setup_call, is_body_call, is_boundary, sync_free}
use Rattle.litmus_syntax.specs.Counts.{IsShortPred}
use Rattle.litmus_syntax.specs.Forms.{is_formed_call, is_formed_pred}
use Rattle.litmus_syntax.specs.Transactions.{calls_of, is_open, all_suit}

-- the test's canonical text is a litmus file, wherever it has at most 65,536 bytes; one of the first version has neither
-- sectors of their own nor transactions
pub record IsWithinLimits (l : Test) : Type 0 where
  pub name : IsTrue (is_word l.name)
  pub version : (l.version ≡ 1) ⊎ (l.version ≡ 2)
  pub some_sector : 1 ≤ l.sector
  pub sector : l.sector ≤ l.block
  pub block : l.block ≤ 65536
  pub one_size : l.version ≡ 1 → l.sector ≡ l.block
  pub setup : All (λ step. IsTrue (is_setup_call step.call && is_formed_call step.call)) l.setup
  pub few_setup : length l.setup ≤ 256
  pub body : All (λ step. IsTrue (is_body_call step.call && is_formed_call step.call)) l.body
  pub few_body : length (sync_free (calls_of l.body)) ≤ 128
  pub placed : IsTrue (all_suit false (calls_of l.body))
  pub closed : is_open (calls_of l.body) ≡ false
  pub no_transactions : l.version ≡ 1 → All (λ step. is_boundary step.call ≡ false) l.body
  pub pred : IsTrue (is_formed_pred l.pred)
  pub short : IsShortPred l.pred
