use Rattle.std.proofs.Common.{◌≡◌, ℕ, true, false, Some, None, List, IsTrue, sym, ◌∙◌, ap, subst, inl}
use Rattle.std.specs.List.{All}
use Rattle.lexeme_reader.specs.declared.reading.Lexeme.{Lexeme}
use Rattle.lexeme_reader.specs.Lexemes.{is_formed}
use Rattle.std.proofs.lemmas.Option.{MatchOption-at_some, MatchOption-at_none}
use Rattle.std.proofs.lemmas.Result.{on_ok_weaker}
use Rattle.litmus_reader.specs.declared.fault.LitmusKind.{LitmusKind}
use Rattle.litmus_reader.specs.declared.fault.LitmusKind.TheVariants.{BadLine, OutOfOrder, NumberRange}
use Rattle.litmus_reader.specs.Statements.{Statement, form_of, statement_lexemes}
use Rattle.litmus_reader.specs.Versions.{version_has}
use Rattle.litmus_reader.specs.Faults.{HaveFault}
use Rattle.litmus_reader.specs.Read.{statement_of}
use Rattle.predicate_reader.specs.Predicates.{AreInRange}
use Rattle.litmus_reader.specs.Stages.{stage_behind}
use Rattle.line_files.specs.StatedLines.{statements}
use Rattle.line_files.specs.FirstFaults.{IsFirst}
use Rattle.litmus_reader.specs.LitmusText.{kinds}
use Rattle.litmus_reader.proofs.Saying.{sound_said, first_said, first_none}
use Rattle.litmus_reader.proofs.Drafting.{has_version, in_order, may_not, unpaired_fault}
use Rattle.litmus_reader.proofs.Exact.{exact}
use Rattle.litmus_reader.proofs.Leading.{alike_statement}
use Rattle.litmus_reader.proofs.Faulting.{alike_version, alike_form, alike_pairs, fault_range, wide}
use Rattle.litmus_reader.proofs.draft.DraftTakeLine.take.Goals as goal

pub returns-then-not-is_of_version-clause-fault : goal.returns-then-not-is_of_version-clause-fault
returns-then-not-is_of_version-clause-fault c = λ kind e stated h.
    let read = MatchOption-at_some _ _ _ c.in-Some.is c.in_ok-said.ensures in
    let same : BadLine ≡ kind = cc in
    let none : version_has c.args.self.now.version (statement_of c.in-Some.said) ≡ false = sym c.is_of_version.ensures ∙ c.if-not-is_of_version.true in
    subst (λ (k : LitmusKind). IsFirst (HaveFault (statements stated) c.args.lexemes.now) kinds k) same
    (first_none (statements stated) c.args.lexemes.now (λ s said.
    ap (λ (v : ℕ). version_has v s) (sym h.version)
    ∙ alike_version c.args.self.now.version s (statement_of c.in-Some.said) (alike_statement s read.statement (sym said ∙ read.lexed) ∙ read.alike)
    ∙ none))

pub returns-in_default-clause-fault : goal.returns-in_default-clause-fault
returns-in_default-clause-fault c = λ kind e stated h.
    let same : BadLine ≡ kind = cc in
    let none : (s : Statement) → c.args.lexemes.now ≡ statement_lexemes s → ⊥ = MatchOption-at_none _ _ c.in_default.is c.in_ok-said.ensures in
    subst (λ (k : LitmusKind). IsFirst (HaveFault (statements stated) c.args.lexemes.now) kinds k) same
    (first_none (statements stated) c.args.lexemes.now (λ s said. absurd (none s said)))

pub returns-in_default-behind-clause-fault : goal.returns-in_default-behind-clause-fault
returns-in_default-behind-clause-fault c = λ kind e stated h.
    let read = MatchOption-at_some _ _ _ c.in-Some.is c.in_ok-said.ensures in
    let d = c.args.self.now in
    let same : OutOfOrder ≡ kind = cc in
    let form : c.form.result ≡ form_of read.statement = c.form.ensures ∙ sym (alike_form read.statement (statement_of c.in-Some.said) read.alike) in
    let none : stage_behind d.stage (form_of read.statement) ≡ None = ap (stage_behind d.stage) (sym form) ∙ sym c.in_default-behind.ensures in
    let has : version_has d.version read.statement ≡ true =
    alike_version d.version read.statement (statement_of c.in-Some.said) read.alike ∙ sym c.is_of_version.ensures ∙ c.if-not-is_of_version.false in
    subst (λ (k : LitmusKind). IsFirst (HaveFault (statements stated) c.args.lexemes.now) kinds k) same
    (first_said (statements stated) c.args.lexemes.now read.statement OutOfOrder read.lexed (may_not stated d read.statement h has none))

pub returns-then-is_unpaired-clause-fault : goal.returns-then-is_unpaired-clause-fault
returns-then-is_unpaired-clause-fault c = λ kind e stated h.
    let read = MatchOption-at_some _ _ _ c.in-Some.is c.in_ok-said.ensures in
    let d = c.args.self.now in
    let same : OutOfOrder ≡ kind = cc in
    let has : version_has d.version read.statement ≡ true =
    alike_version d.version read.statement (statement_of c.in-Some.said) read.alike ∙ sym c.is_of_version.ensures ∙ c.if-not-is_of_version.false in
    let unpaired = alike_pairs d.in_transaction read.statement (statement_of c.in-Some.said) read.alike ∙ c.if-is_unpaired.ensures.1 in
    subst (λ (k : LitmusKind). IsFirst (HaveFault (statements stated) c.args.lexemes.now) kinds k) same
    (first_said (statements stated) c.args.lexemes.now read.statement OutOfOrder read.lexed (unpaired_fault stated d read.statement h has c.if-is_unpaired.ensures.0 unpaired))

pub returns-then-not-are_in_range-clause-fault : goal.returns-then-not-are_in_range-clause-fault
returns-then-not-are_in_range-clause-fault c = λ kind e stated h.
    let read = MatchOption-at_some _ _ _ c.in-Some.is c.in_ok-said.ensures in
    let d = c.args.self.now in
    let s = read.statement in
    let t = statement_of c.in-Some.said in
    let same : NumberRange ≡ kind = cc in
    let form : c.form.result ≡ form_of s = c.form.ensures ∙ sym (alike_form s t read.alike) in
    let next : stage_behind d.stage (form_of s) ≡ Some c.in-Some-behind.stage = ap (stage_behind d.stage) (sym form) ∙ sym c.in-Some-behind.ensures in
    let has : version_has d.version s ≡ true = alike_version d.version s t read.alike ∙ sym c.is_of_version.ensures ∙ c.if-not-is_of_version.false in
    let before = statements stated in
    subst (λ (k : LitmusKind). IsFirst (HaveFault before c.args.lexemes.now) kinds k) same
    (first_said before c.args.lexemes.now s NumberRange read.lexed
    (fault_range before s (has_version stated d s h has)
    (in_order stated d s c.in-Some-behind.stage h next (λ inside. alike_pairs d.in_transaction s t read.alike ∙ c.if-is_unpaired.ensures inside))
    (inl (wide c.args.lexemes.now s read.lexed c.if-not-are_in_range.ensures))))

pub state-requires : goal.state-requires
state-requires c =
    let read = MatchOption-at_some _ _ _ c.in-Some.is c.in_ok-said.ensures in
    let same = exact c.args.lexemes.now (statement_of c.in-Some.said) read c.if-not-are_in_range.ensures in
    record {
      of_version = sym c.is_of_version.ensures ∙ c.if-not-is_of_version.false;
      leads = ap (stage_behind c.args.self.now.stage) (sym c.form.ensures) ∙ sym c.in-Some-behind.ensures;
      paired = c.if-is_unpaired.ensures;
      formed = subst (λ (ls : List Lexeme). All (λ l. IsTrue (is_formed l)) ls) same c.requires.formed;
      in_range = subst AreInRange same c.if-not-are_in_range.ensures;
    }

pub returns-clause-fault : goal.returns-clause-fault
returns-clause-fault c = λ kind e stated h.
    let read = MatchOption-at_some _ _ _ c.in-Some.is c.in_ok-said.ensures in
    let fault = c.state.ensures.fault kind e stated h in
    first_said (statements stated) c.args.lexemes.now (statement_of c.in-Some.said) kind
    (exact c.args.lexemes.now (statement_of c.in-Some.said) read c.if-not-are_in_range.ensures) fault

pub returns-clause-taken : goal.returns-clause-taken
returns-clause-taken c =
    let read = MatchOption-at_some _ _ _ c.in-Some.is c.in_ok-said.ensures in
    let s = statement_of c.in-Some.said in
    let same = exact c.args.lexemes.now s read c.if-not-are_in_range.ensures in
    on_ok_weaker c.state.result (λ taken stated h.
    (s, same, sound_said (statements stated) s (taken stated h).faultless, (taken stated h).kept)) c.state.ensures.taken
