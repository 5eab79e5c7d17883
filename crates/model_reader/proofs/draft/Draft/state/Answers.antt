use Rattle.std.proofs.Common.{◌≡◌, false, sym, subst, refl}
use Rattle.std.proofs.lemmas.Result.{on_ok_weaker}
use Rattle.line_files.specs.StatedLines.{statements}
use Rattle.model_reader.specs.declared.statements.Said.{Said}
use Rattle.model_reader.specs.declared.draft.Stage.TheVariants.{BehindEnd}
use Rattle.model_reader.specs.Drafts.{statement_of, IsTaken, IsFirstKind, is_barred, HasRoom}
use Rattle.model_reader.proofs.Drafting.{head_taken, let_taken, keep_taken, end_taken, let_fault, keep_fault}
use Rattle.model_reader.proofs.draft.Draft.state.Goals as goal

pub define-requires : goal.define-requires
define-requires c = record { names = subst (λ (x : Said). HasRoom c.args.self.now (statement_of x)) c.in-Let.is c.requires.room; keeps = c.requires.few_keeps }

pub returns-in-Head-clause-taken : goal.returns-in-Head-clause-taken
returns-in-Head-clause-taken c =
    let fits = subst (λ (x : Said). is_barred c.args.self.now.stage c.args.self.now.version (statement_of x) ≡ false) c.in-Head.is c.requires.placed in
    on_ok_weaker c.set_head.result (λ is line stated h.
    subst (λ (x : Said). IsTaken stated line (statement_of x) c.set_head.new.self) (sym c.in-Head.is)
    (head_taken stated c.args.self.now h line c.in-Head.name.now c.in-Head.version c.set_head.new.self fits is)) c.set_head.ensures.set

pub returns-in-Let-clause-taken : goal.returns-in-Let-clause-taken
returns-in-Let-clause-taken c =
    let fits = subst (λ (x : Said). is_barred c.args.self.now.stage c.args.self.now.version (statement_of x) ≡ false) c.in-Let.is c.requires.placed in
    let room = subst (λ (x : Said). HasRoom c.args.self.now (statement_of x)) c.in-Let.is c.requires.room in
    on_ok_weaker c.define.result (λ is line stated h.
    subst (λ (x : Said). IsTaken stated line (statement_of x) c.define.new.self) (sym c.in-Let.is)
    (let_taken stated c.args.self.now h line c.in-Let.recursive c.in-Let.name.now c.in-Let.value.now is.0 c.define.new.self fits room is.1 is.2 is.3)) c.define.ensures.defined

pub returns-in-Let-clause-fault : goal.returns-in-Let-clause-fault
returns-in-Let-clause-fault c = λ kind e stated h.
    let fits = subst (λ (x : Said). is_barred c.args.self.now.stage c.args.self.now.version (statement_of x) ≡ false) c.in-Let.is c.requires.placed in
    subst (λ (x : Said). IsFirstKind (statements stated) (statement_of x) kind) (sym c.in-Let.is)
    (let_fault stated c.args.self.now h c.in-Let.recursive c.in-Let.name.now c.in-Let.value.now kind fits (c.define.ensures.fault kind e))

pub returns-in-Keep-clause-taken : goal.returns-in-Keep-clause-taken
returns-in-Keep-clause-taken c =
    let fits = subst (λ (x : Said). is_barred c.args.self.now.stage c.args.self.now.version (statement_of x) ≡ false) c.in-Keep.is c.requires.placed in
    let room = subst (λ (x : Said). HasRoom c.args.self.now (statement_of x)) c.in-Keep.is c.requires.room in
    on_ok_weaker c.keep.result (λ is line stated h.
    subst (λ (x : Said). IsTaken stated line (statement_of x) c.keep.new.self) (sym c.in-Keep.is)
    (keep_taken stated c.args.self.now h line c.in-Keep.value.now is.0 c.keep.new.self fits room is.1 is.2)) c.keep.ensures.kept

pub returns-in-Keep-clause-fault : goal.returns-in-Keep-clause-fault
returns-in-Keep-clause-fault c = λ kind e stated h.
    let fits = subst (λ (x : Said). is_barred c.args.self.now.stage c.args.self.now.version (statement_of x) ≡ false) c.in-Keep.is c.requires.placed in
    subst (λ (x : Said). IsFirstKind (statements stated) (statement_of x) kind) (sym c.in-Keep.is)
    (keep_fault stated c.args.self.now h c.in-Keep.value.now kind fits (c.keep.ensures.fault kind e))

pub returns-in-End-clause-taken : goal.returns-in-End-clause-taken
returns-in-End-clause-taken c = λ line stated h.
    let fits = subst (λ (x : Said). is_barred c.args.self.now.stage c.args.self.now.version (statement_of x) ≡ false) c.in-End.is c.requires.placed in
    let e = record c.args.self.now { stage = BehindEnd } in
    subst (λ (x : Said). IsTaken stated line (statement_of x) e) (sym c.in-End.is) (end_taken stated c.args.self.now h line e fits refl)
