use Rattle.std.proofs.Common.{ℕ, List, sym, subst}
use Rattle.fer_outside.specs.Causes.{Rose}
use Rattle.command_line.specs.declared.commands.Command.{Command}
use Rattle.ferrite_run.specs.Answers.{IsReply}
use Rattle.ferrite_run.specs.Found.{IsInRange}
use Rattle.ferrite_run.specs.Saying.{Replies}
use Rattle.ferrite_run.proofs.top.reply.Goals as goal

pub returns-in-Check-clause-replied : goal.returns-in-Check-clause-replied
returns-in-Check-clause-replied g c =
    let rose : List ℕ → Type 0 = λ other. Rose (g.L.Library.faults c.args.library.now other) (g.L.Library.faults c.check.new.library other) in
    let P : Command → Type 0 = λ command. Replies (IsReply (g.L.Library.held c.args.library.now) rose command) c.check.result in
    subst P (sym c.in-Check.is) c.check.ensures.answered

pub returns-in-Events-clause-replied : goal.returns-in-Events-clause-replied
returns-in-Events-clause-replied g c =
    let rose : List ℕ → Type 0 = λ other. Rose (g.L.Library.faults c.args.library.now other) (g.L.Library.faults c.list.new.library other) in
    let P : Command → Type 0 = λ command. Replies (IsReply (g.L.Library.held c.args.library.now) rose command) c.list.result in
    subst P (sym c.in-Events.is) c.list.ensures.answered

pub returns-in-Show-clause-replied : goal.returns-in-Show-clause-replied
returns-in-Show-clause-replied g c =
    let rose : List ℕ → Type 0 = λ other. Rose (g.L.Library.faults c.args.library.now other) (g.L.Library.faults c.show.new.library other) in
    let P : Command → Type 0 = λ command. Replies (IsReply (g.L.Library.held c.args.library.now) rose command) c.show.result in
    subst P (sym c.in-Show.is) c.show.ensures.answered

pub returns-in-Replay-clause-replied : goal.returns-in-Replay-clause-replied
returns-in-Replay-clause-replied g c =
    let rose : List ℕ → Type 0 = λ other. Rose (g.L.Library.faults c.args.library.now other) (g.L.Library.faults c.replay.new.library other) in
    let P : Command → Type 0 = λ command. Replies (IsReply (g.L.Library.held c.args.library.now) rose command) c.replay.result in
    subst P (sym c.in-Replay.is) c.replay.ensures.answered

pub returns-in-Verify-clause-replied : goal.returns-in-Verify-clause-replied
returns-in-Verify-clause-replied g c =
    let rose : List ℕ → Type 0 = λ other. Rose (g.L.Library.faults c.args.library.now other) (g.L.Library.faults c.verify.new.library other) in
    let P : Command → Type 0 = λ command. Replies (IsReply (g.L.Library.held c.args.library.now) rose command) c.verify.result in
    subst P (sym c.in-Verify.is) c.verify.ensures.answered

pub returns-in-Repair-clause-replied : goal.returns-in-Repair-clause-replied
returns-in-Repair-clause-replied g c =
    let rose : List ℕ → Type 0 = λ other. Rose (g.L.Library.faults c.args.library.now other) (g.L.Library.faults c.repair.new.library other) in
    let P : Command → Type 0 = λ command. Replies (IsReply (g.L.Library.held c.args.library.now) rose command) c.repair.result in
    subst P (sym c.in-Repair.is) c.repair.ensures.answered

pub returns-in-Work-clause-replied : goal.returns-in-Work-clause-replied
returns-in-Work-clause-replied g c =
    let rose : List ℕ → Type 0 = λ other. Rose (g.L.Library.faults c.args.library.now other) (g.L.Library.faults c.args.library.now other) in
    let P : Command → Type 0 = λ command. Replies (IsReply (g.L.Library.held c.args.library.now) rose command) c.work.result in
    subst P (sym c.in-Work.is) c.work.ensures.answered

pub work-requires-clause-some : goal.work-requires-clause-some
work-requires-clause-some g c = (subst IsInRange c.in-Work.is c.requires.in_range).0

pub work-requires-clause-few : goal.work-requires-clause-few
work-requires-clause-few g c = (subst IsInRange c.in-Work.is c.requires.in_range).1
