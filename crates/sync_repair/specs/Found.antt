-- Private: what was learned, as findings about a set of sites.
use Rattle.std.specs.Prelude.{◌≡◌, ℕ, Bool, List}
use Rattle.cdcl_core.specs.Answering.{Solving}
use Rattle.fer_events.specs.Pairs.{PairList}
use Rattle.sync_repair.specs.declared.findings.Findings.{Findings}
use Rattle.sync_repair.specs.declared.repairing.RepairAnswer.{RepairAnswer}
use Rattle.sync_repair.specs.Findings.{AreFindings}
use Rattle.sync_repair.specs.Repairs.{IsRepair}
use Rattle.sync_repair.specs.Settings.{Setting}

-- the findings have all that the series learned, for the question about the set, before which so many clauses were learned
pub record IsFound (s : Setting) (set : List Bool) (before : ℕ) (closed : Bool) (series : Solving) (f : Findings) : Type 0 where
  pub kept : PairList
  pub findings : AreFindings s.litmus s.model s.sites s.all kept f
  pub about : f.set ≡ set
  pub since : f.before ≡ before
  pub ends : f.part.closed ≡ closed
  pub learned : f.part.learned ≡ series.learned

-- what a repair in the setting comes to
abbrev pub IsRepairIn : Setting → ℕ → RepairAnswer → Type 0
IsRepairIn s limit answer = IsRepair s.litmus s.model s.sites limit answer
