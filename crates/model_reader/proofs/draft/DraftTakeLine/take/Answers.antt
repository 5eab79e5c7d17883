use Rattle.std.proofs.Common.{◌≡◌, ◌<◌, true, List, sym, ◌∙◌, subst, arith}
use Rattle.std.proofs.lemmas.Option.{MatchOption-at_some, MatchOption-at_none}
use Rattle.std.proofs.lemmas.Result.{on_ok_weaker}
use Rattle.lexeme_reader.specs.declared.reading.Lexeme.{Lexeme}
use Rattle.line_files.specs.FirstFaults.{IsFirst}
use Rattle.line_files.specs.StatedLines.{statements}
use Rattle.lexeme_reader.specs.Parentheses.{most_open}
use Rattle.model_reader.specs.declared.fault.ModelKind.{ModelKind}
use Rattle.model_reader.specs.declared.fault.ModelKind.TheVariants.{BadLine, TooDeep, TooMany}
use Rattle.model_reader.specs.Statements.{Statement, statement_lexemes}
use Rattle.model_reader.specs.Faults.{HaveFault}
use Rattle.model_reader.specs.ModelText.{kinds}
use Rattle.model_reader.specs.Drafts.{statement_of, is_barred}
use Rattle.model_reader.proofs.Placing.{barred}
use Rattle.model_reader.proofs.Saying.{AreFew, sound_said, first_said, first_deep, first_many, first_none, barred_said}
use Rattle.model_reader.proofs.Rooms.{many_of, few_of, room_of}
use Rattle.model_reader.proofs.draft.DraftTakeLine.take.Goals as goal

pub returns-then-is_deep-clause-fault : goal.returns-then-is_deep-clause-fault
returns-then-is_deep-clause-fault c = λ kind e stated h.
    let same : TooDeep ≡ kind = cc in
    subst (λ (k : ModelKind). IsFirst (HaveFault (statements stated) c.args.lexemes.now) kinds k) same
    (first_deep (statements stated) c.args.lexemes.now c.if-is_deep.ensures)

pub returns-then-is_one_too_many-clause-fault : goal.returns-then-is_one_too_many-clause-fault
returns-then-is_one_too_many-clause-fault c = λ kind e stated h.
    let same : TooMany ≡ kind = cc in
    let shallow : 64 < most_open 0 c.args.lexemes.now → ⊥ = λ deep. omega (arith, c.if-is_deep.ensures) in
    subst (λ (k : ModelKind). IsFirst (HaveFault (statements stated) c.args.lexemes.now) kinds k) same
    (first_many (statements stated) c.args.lexemes.now shallow (many_of stated c.args.self.now h c.args.lexemes.now c.if-is_one_too_many.ensures))

pub returns-in_default-clause-fault : goal.returns-in_default-clause-fault
returns-in_default-clause-fault c = λ kind e stated h.
    let same : BadLine ≡ kind = cc in
    let none : (s : Statement) → c.args.lexemes.now ≡ statement_lexemes s → ⊥ = MatchOption-at_none _ _ c.in_default.is c.said_by.ensures in
    subst (λ (k : ModelKind). IsFirst (HaveFault (statements stated) c.args.lexemes.now) kinds k) same
    (first_none (statements stated) c.args.lexemes.now (few_of stated c.args.self.now h c.args.lexemes.now c.if-is_deep.ensures c.if-is_one_too_many.ensures)
    (λ s said. absurd (none s said)))

pub returns-then-is_barred-clause-fault : goal.returns-then-is_barred-clause-fault
returns-then-is_barred-clause-fault c = λ kind e stated h.
    let same : BadLine ≡ kind = cc in
    let read : c.args.lexemes.now ≡ statement_lexemes (statement_of c.in-Some.said) = MatchOption-at_some _ _ _ c.in-Some.is c.said_by.ensures in
    let bars : is_barred c.args.self.now.stage c.args.self.now.version (statement_of c.in-Some.said) ≡ true = sym c.is_barred.ensures ∙ c.if-is_barred.true in
    subst (λ (k : ModelKind). IsFirst (HaveFault (statements stated) c.args.lexemes.now) kinds k) same
    (first_none (statements stated) c.args.lexemes.now (few_of stated c.args.self.now h c.args.lexemes.now c.if-is_deep.ensures c.if-is_one_too_many.ensures)
    (barred_said (statements stated) c.args.lexemes.now (statement_of c.in-Some.said) read (barred stated c.args.self.now (statement_of c.in-Some.said) h bars)))

pub state-requires : goal.state-requires
state-requires c =
    let read : c.args.lexemes.now ≡ statement_lexemes (statement_of c.in-Some.said) = MatchOption-at_some _ _ _ c.in-Some.is c.said_by.ensures in
    record {
      placed = sym c.is_barred.ensures ∙ c.if-is_barred.false;
      room = room_of c.args.self.now c.args.lexemes.now (statement_of c.in-Some.said) read c.if-is_one_too_many.ensures;
      few_names = c.requires.kept.1.few_names;
      few_keeps = c.requires.kept.1.few_keeps;
    }

pub returns-clause-taken : goal.returns-clause-taken
returns-clause-taken c =
    let s = statement_of c.in-Some.said in
    let read : c.args.lexemes.now ≡ statement_lexemes s = MatchOption-at_some _ _ _ c.in-Some.is c.said_by.ensures in
    on_ok_weaker c.state.result (λ taken stated h.
    let few = subst (λ (ls : List Lexeme). AreFew (statements stated) ls) read
    (few_of stated c.args.self.now h c.args.lexemes.now c.if-is_deep.ensures c.if-is_one_too_many.ensures) in
    (s, read, sound_said (statements stated) s few (taken c.args._line stated h).faultless, (taken c.args._line stated h).kept)) c.state.ensures.taken

pub returns-clause-fault : goal.returns-clause-fault
returns-clause-fault c = λ kind e stated h.
    let s = statement_of c.in-Some.said in
    let read : c.args.lexemes.now ≡ statement_lexemes s = MatchOption-at_some _ _ _ c.in-Some.is c.said_by.ensures in
    first_said (statements stated) c.args.lexemes.now s kind read
    (few_of stated c.args.self.now h c.args.lexemes.now c.if-is_deep.ensures c.if-is_one_too_many.ensures) (c.state.ensures.fault kind e stated h)
