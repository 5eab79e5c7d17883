use Rattle.std.proofs.Common.{refl, sym, subst}
use Rattle.std.proofs.lemmas.Result.{on_ok_weaker}
use Rattle.litmus_reader.specs.declared.fault.LitmusKind.{LitmusKind}
use Rattle.litmus_reader.specs.declared.draft.Draft.{Draft}
use Rattle.litmus_reader.specs.declared.statements.Said.{Said}
use Rattle.litmus_reader.specs.Read.{statement_of}
use Rattle.litmus_reader.specs.Statements.{Block, Sector}
use Rattle.litmus_reader.specs.TakenLines.{IsFirstKind}
use Rattle.line_files.specs.StatedLines.{statements}
use Rattle.litmus_reader.specs.Drafts.{IsExpected}
use Rattle.litmus_reader.specs.TakenLines.{IsTaken}
use Rattle.litmus_reader.proofs.Drafting.{head_taken, block_taken, block_fault, sector_taken, sector_fault, setup_taken, body_taken}
use Rattle.litmus_reader.proofs.Calling.{setup_call_taken, setup_call_fault, body_call_taken, body_call_fault, asked_in_range, question_taken, question_fault}
use Rattle.litmus_reader.proofs.draft.Draft.state.Goals as goal

pub ask-requires : goal.ask-requires
ask-requires c =
    let known = subst (λ (x : Said). IsExpected c.args.self.now c.args.stage (statement_of x)) c.in-Question.is c.requires in
    asked_in_range c.in-Question.want c.in-Question.asked.now known.in_range

pub returns-in-Head-clause-taken : goal.returns-in-Head-clause-taken
returns-in-Head-clause-taken c =
    let known = subst (λ (x : Said). IsExpected c.args.self.now c.args.stage (statement_of x)) c.in-Head.is c.requires in
    on_ok_weaker c.set_head.result (λ is stated h.
    subst (λ (x : Said). IsTaken stated c.args.line (statement_of x) c.set_head.new.self) (sym c.in-Head.is)
    (head_taken stated c.args.self.now c.set_head.new.self c.args.line c.in-Head.name.now c.in-Head.version c.args.stage h known is)) c.set_head.ensures.set

pub returns-in-Block-clause-taken : goal.returns-in-Block-clause-taken
returns-in-Block-clause-taken c =
    let known = subst (λ (x : Said). IsExpected c.args.self.now c.args.stage (statement_of x)) c.in-Block.is c.requires in
    on_ok_weaker c.set_block.result (λ is stated h.
    subst (λ (x : Said). IsTaken stated c.args.line (statement_of x) c.set_block.new.self) (sym c.in-Block.is)
    (block_taken stated c.args.self.now c.set_block.new.self c.args.line c.in-Block.size c.args.stage h known is.0 is.1 is.2)) c.set_block.ensures.set

pub returns-in-Block-clause-fault : goal.returns-in-Block-clause-fault
returns-in-Block-clause-fault c = λ kind e stated h.
    let known = subst (λ (x : Said). IsExpected c.args.self.now c.args.stage (statement_of x)) c.in-Block.is c.requires in
    let bad = c.set_block.ensures.fault kind e in
    subst (λ (x : Said). IsFirstKind (statements stated) (statement_of x) kind) (sym c.in-Block.is)
    (subst (λ (k : LitmusKind). IsFirstKind (statements stated) (Block c.in-Block.size) k) (sym bad.0)
    (block_fault stated c.args.self.now c.in-Block.size c.args.stage h known bad.1))

pub returns-in-Sector-clause-taken : goal.returns-in-Sector-clause-taken
returns-in-Sector-clause-taken c =
    let known = subst (λ (x : Said). IsExpected c.args.self.now c.args.stage (statement_of x)) c.in-Sector.is c.requires in
    on_ok_weaker c.set_sector.result (λ is stated h.
    subst (λ (x : Said). IsTaken stated c.args.line (statement_of x) c.set_sector.new.self) (sym c.in-Sector.is)
    (sector_taken stated c.args.self.now c.set_sector.new.self c.args.line c.in-Sector.size c.args.stage h known is.0 is.1 is.2)) c.set_sector.ensures.set

pub returns-in-Sector-clause-fault : goal.returns-in-Sector-clause-fault
returns-in-Sector-clause-fault c = λ kind e stated h.
    let known = subst (λ (x : Said). IsExpected c.args.self.now c.args.stage (statement_of x)) c.in-Sector.is c.requires in
    let bad = c.set_sector.ensures.fault kind e in
    subst (λ (x : Said). IsFirstKind (statements stated) (statement_of x) kind) (sym c.in-Sector.is)
    (subst (λ (k : LitmusKind). IsFirstKind (statements stated) (Sector c.in-Sector.size) k) (sym bad.0)
    (sector_fault stated c.args.self.now c.in-Sector.size c.args.stage h known bad.1))

pub returns-in-InBody-clause-taken : goal.returns-in-InBody-clause-taken
returns-in-InBody-clause-taken c =
    let known = subst (λ (x : Said). IsExpected c.args.self.now c.args.stage (statement_of x)) c.in-Called.is c.requires in
    on_ok_weaker c.push_body.result (λ is stated h.
    subst (λ (x : Said). IsTaken stated c.args.line (statement_of x) c.push_body.new.self) (sym c.in-Called.is)
    (body_call_taken stated c.args.self.now c.push_body.new.self c.args.line c.in-Called.call c.args.stage h known c.in-InBody.is is.0 is.1 is.2 is.3))
    c.push_body.ensures.pushed

pub returns-in-InBody-clause-fault : goal.returns-in-InBody-clause-fault
returns-in-InBody-clause-fault c = λ kind e stated h.
    let known = subst (λ (x : Said). IsExpected c.args.self.now c.args.stage (statement_of x)) c.in-Called.is c.requires in
    subst (λ (x : Said). IsFirstKind (statements stated) (statement_of x) kind) (sym c.in-Called.is)
    (body_call_fault stated c.args.self.now c.in-Called.call c.args.stage kind h known c.in-InBody.is (c.push_body.ensures.fault kind e))

pub returns-in_default-clause-taken : goal.returns-in_default-clause-taken
returns-in_default-clause-taken c =
    let known = subst (λ (x : Said). IsExpected c.args.self.now c.args.stage (statement_of x)) c.in-Called.is c.requires in
    on_ok_weaker c.push_setup.result (λ is stated h.
    subst (λ (x : Said). IsTaken stated c.args.line (statement_of x) c.push_setup.new.self) (sym c.in-Called.is)
    (setup_call_taken stated c.args.self.now c.push_setup.new.self c.args.line c.in-Called.call c.args.stage h known c.in_default.not-InBody is.0 is.1 is.2))
    c.push_setup.ensures.pushed

pub returns-in_default-clause-fault : goal.returns-in_default-clause-fault
returns-in_default-clause-fault c = λ kind e stated h.
    let known = subst (λ (x : Said). IsExpected c.args.self.now c.args.stage (statement_of x)) c.in-Called.is c.requires in
    subst (λ (x : Said). IsFirstKind (statements stated) (statement_of x) kind) (sym c.in-Called.is)
    (setup_call_fault stated c.args.self.now c.in-Called.call c.args.stage kind h known c.in_default.not-InBody (c.push_setup.ensures.fault kind e))

pub returns-in-Question-clause-taken : goal.returns-in-Question-clause-taken
returns-in-Question-clause-taken c =
    let known = subst (λ (x : Said). IsExpected c.args.self.now c.args.stage (statement_of x)) c.in-Question.is c.requires in
    on_ok_weaker c.ask.result (λ is stated h.
    subst (λ (x : Said). IsTaken stated c.args.line (statement_of x) c.ask.new.self) (sym c.in-Question.is)
    (question_taken stated c.args.self.now c.ask.new.self c.args.line c.in-Question.want c.in-Question.asked.now is.1.0 c.args.stage h known is.0 is.1.1 is.1.2))
    c.ask.ensures.asked

pub returns-in-Question-clause-fault : goal.returns-in-Question-clause-fault
returns-in-Question-clause-fault c = λ kind e stated h.
    let known = subst (λ (x : Said). IsExpected c.args.self.now c.args.stage (statement_of x)) c.in-Question.is c.requires in
    subst (λ (x : Said). IsFirstKind (statements stated) (statement_of x) kind) (sym c.in-Question.is)
    (question_fault stated c.args.self.now c.in-Question.want c.in-Question.asked.now c.args.stage kind h known (c.ask.ensures.fault kind e))

pub returns-in-Setup-clause-taken : goal.returns-in-Setup-clause-taken
returns-in-Setup-clause-taken c = λ stated h.
    let known = subst (λ (x : Said). IsExpected c.args.self.now c.args.stage (statement_of x)) c.in-Setup.is c.requires in
    let e : Draft = record c.args.self.now { stage = c.args.stage } in
    subst (λ (x : Said). IsTaken stated c.args.line (statement_of x) e) (sym c.in-Setup.is)
    (setup_taken stated c.args.self.now e c.args.line c.args.stage h known refl)

pub returns-in-Body-clause-taken : goal.returns-in-Body-clause-taken
returns-in-Body-clause-taken c = λ stated h.
    let known = subst (λ (x : Said). IsExpected c.args.self.now c.args.stage (statement_of x)) c.in-Body.is c.requires in
    let e : Draft = record c.args.self.now { stage = c.args.stage } in
    subst (λ (x : Said). IsTaken stated c.args.line (statement_of x) e) (sym c.in-Body.is)
    (body_taken stated c.args.self.now e c.args.line c.args.stage h known refl)
