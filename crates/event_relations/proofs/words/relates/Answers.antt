use Rattle.std.proofs.Common.{◌≡◌, ℕ, suc, ◌<◌, true, ◌↔◌, ap, arith, eqb, ltb}
use Rattle.std.proofs.lemmas.Bool.{eq-eqb, eqb-true}
use Rattle.std.proofs.lemmas.Bool.Decides.{nat_tests}
use Rattle.model_reader.specs.declared.expr.Expr.TheVariants as expr
use Rattle.event_relations.specs.Words.{BothCarry}
use Rattle.event_relations.specs.Lexicons.{as_expr}
use Rattle.event_relations.proofs.WordTests.{of_word, is-Po, is-Id, is-Any, is-SameFile, is-SameBlock, is-SameDir, is-SameName, is-SameCall, is-SameTxn}
use Rattle.event_relations.proofs.words.relates.Goals as goal

less : (a b : ℕ) → (ltb a b ≡ true) ↔ (suc a < suc b)
less a b = (λ h. grind (arith, nat_tests), λ h. grind (arith, nat_tests))

same : (a b : ℕ) → (eqb a b ≡ true) ↔ (a ≡ b)
same a b = (eqb-true a b, eq-eqb a b)

same_suc : (a b : ℕ) → (eqb a b ≡ true) ↔ (suc a ≡ suc b)
same_suc a b = (λ h. ap suc (eqb-true a b h), λ h. eq-eqb a b (omega arith))

pub returns-in-Po : goal.returns-in-Po
returns-in-Po c = of_word (suc c.args.a) (suc c.args.b) c.args.e.now c.args.f.now (as_expr c.args.word) expr.Po (ltb c.args.a c.args.b) (ap as_expr c.in-Po.is) (is-Po (suc c.args.a) (suc c.args.b) c.args.e.now c.args.f.now (ltb c.args.a c.args.b) (less c.args.a c.args.b))

pub returns-in-Id : goal.returns-in-Id
returns-in-Id c = of_word (suc c.args.a) (suc c.args.b) c.args.e.now c.args.f.now (as_expr c.args.word) expr.Id (eqb c.args.a c.args.b) (ap as_expr c.in-Id.is) (is-Id (suc c.args.a) (suc c.args.b) c.args.e.now c.args.f.now (eqb c.args.a c.args.b) (same_suc c.args.a c.args.b))

pub returns-in-Any : goal.returns-in-Any
returns-in-Any c = of_word (suc c.args.a) (suc c.args.b) c.args.e.now c.args.f.now (as_expr c.args.word) expr.Any true (ap as_expr c.in-Any.is) (is-Any (suc c.args.a) (suc c.args.b) c.args.e.now c.args.f.now)

pub returns-in-SameFile : goal.returns-in-SameFile
returns-in-SameFile c = of_word (suc c.args.a) (suc c.args.b) c.args.e.now c.args.f.now (as_expr c.args.word) expr.SameFile c.both_carry.result (ap as_expr c.in-SameFile.is) (is-SameFile (suc c.args.a) (suc c.args.b) c.args.e.now c.args.f.now c.both_carry.result c.both_carry.ensures)

pub returns-in-SameDir : goal.returns-in-SameDir
returns-in-SameDir c = of_word (suc c.args.a) (suc c.args.b) c.args.e.now c.args.f.now (as_expr c.args.word) expr.SameDir c.both_carry-in-SameDir.result (ap as_expr c.in-SameDir.is) (is-SameDir (suc c.args.a) (suc c.args.b) c.args.e.now c.args.f.now c.both_carry-in-SameDir.result c.both_carry-in-SameDir.ensures)

pub returns-in-SameName : goal.returns-in-SameName
returns-in-SameName c = of_word (suc c.args.a) (suc c.args.b) c.args.e.now c.args.f.now (as_expr c.args.word) expr.SameName c.both_carry-in-SameName.result (ap as_expr c.in-SameName.is) (is-SameName (suc c.args.a) (suc c.args.b) c.args.e.now c.args.f.now c.both_carry-in-SameName.result c.both_carry-in-SameName.ensures)

pub returns-in-SameCall : goal.returns-in-SameCall
returns-in-SameCall c = of_word (suc c.args.a) (suc c.args.b) c.args.e.now c.args.f.now (as_expr c.args.word) expr.SameCall (eqb c.args.e.now.call c.args.f.now.call) (ap as_expr c.in-SameCall.is) (is-SameCall (suc c.args.a) (suc c.args.b) c.args.e.now c.args.f.now (eqb c.args.e.now.call c.args.f.now.call) (same c.args.e.now.call c.args.f.now.call))

pub returns-in-SameTxn : goal.returns-in-SameTxn
returns-in-SameTxn c = of_word (suc c.args.a) (suc c.args.b) c.args.e.now c.args.f.now (as_expr c.args.word) expr.SameTxn (eqb c.args.e.now.txn c.args.f.now.txn) (ap as_expr c.in-SameTxn.is) (is-SameTxn (suc c.args.a) (suc c.args.b) c.args.e.now c.args.f.now (eqb c.args.e.now.txn c.args.f.now.txn) (same c.args.e.now.txn c.args.f.now.txn))

pub returns-else-not-both_carry : goal.returns-else-not-both_carry
returns-else-not-both_carry c =
    let file : BothCarry c.args.e.now.file c.args.f.now.file = c.both_carry-in-SameBlock.ensures.0 c.if-not-both_carry.false in
    of_word (suc c.args.a) (suc c.args.b) c.args.e.now c.args.f.now (as_expr c.args.word) expr.SameBlock c.both_carry-in-SameBlock-2.result (ap as_expr c.in-SameBlock.is)
    (is-SameBlock (suc c.args.a) (suc c.args.b) c.args.e.now c.args.f.now c.both_carry-in-SameBlock-2.result
    (λ t. (file, c.both_carry-in-SameBlock-2.ensures.0 t), λ s. c.both_carry-in-SameBlock-2.ensures.1 s.1))
