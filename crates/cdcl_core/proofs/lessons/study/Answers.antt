use Rattle.std.proofs.Common.{◌≡◌, ℕ, min, ◌++◌, ◌∷◌, [], List, length, Result, Ok, Err, OnOk, OnErr, refl, sym, ap, ap₂, subst, ◌∙◌, arith}
use Rattle.clause_store.specs.declared.Lit.{Lit}
use Rattle.clause_store.specs.Clauses.{Formula}
use Rattle.cdcl_core.specs.Numbers.{AreNumbers, at_numbers, at_others}
use Rattle.cdcl_core.specs.Search.{IsLesson, with_clause}
use Rattle.cdcl_core.proofs.Numbering.{numbers-push, others-same, numbers-more, lesson-both}
use Rattle.cdcl_core.proofs.Deciding.{footing-jumped}
use Rattle.cdcl_core.proofs.lessons.study.Goals as goal

numbers-after : {A B : Type 0} (r : Result A B) (f f' : Formula) (ns ns' : List ℕ) → OnOk r ((clause : List Lit) × IsLesson f.clauses clause × (f' ≡ with_clause f clause) × (ns' ≡ ns ++ length f.clauses ∷ [])) → OnErr r (f' ≡ f) → OnErr r (ns' ≡ ns)
    → AreNumbers f.clauses ns → AreNumbers f'.clauses ns'
numbers-after (Ok a) f f' ns ns' (clause, lesson, fe, ne) x y h =
    subst (λ (g : Formula). AreNumbers g.clauses ns') (sym fe) (subst (λ ms. AreNumbers (f.clauses ++ clause ∷ []) ms) (sym ne) (numbers-push ns (length f.clauses) f.clauses clause h refl))
numbers-after (Err e) f f' ns ns' x fe ne h =
    subst (λ (g : Formula). AreNumbers g.clauses ns') (sym fe) (subst (λ ms. AreNumbers f.clauses ms) (sym ne) h)

given-after : {A B : Type 0} (r : Result A B) (f f' : Formula) (ns ns' : List ℕ) → OnOk r ((clause : List Lit) × IsLesson f.clauses clause × (f' ≡ with_clause f clause) × (ns' ≡ ns ++ length f.clauses ∷ [])) → OnErr r (f' ≡ f) → OnErr r (ns' ≡ ns)
    → at_others 0 ns' f'.clauses ≡ at_others 0 ns f.clauses
given-after (Ok a) f f' ns ns' (clause, lesson, fe, ne) x y =
    ap₂ (λ (ms : List ℕ) (g : Formula). at_others 0 ms g.clauses) ne fe ∙ others-same 0 (length f.clauses) ns f.clauses clause (omega arith)
given-after (Err e) f f' ns ns' x fe ne = ap₂ (λ (ms : List ℕ) (g : Formula). at_others 0 ms g.clauses) ne fe

lesson-after : {A B : Type 0} (r : Result A B) (f f' : Formula) (ns ns' : List ℕ) → OnOk r ((clause : List Lit) × IsLesson f.clauses clause × (f' ≡ with_clause f clause) × (ns' ≡ ns ++ length f.clauses ∷ []))
    → AreNumbers f.clauses ns → OnOk r ((clause : List Lit) × IsLesson (at_others 0 ns f.clauses ++ at_numbers ns f.clauses) clause × (at_numbers ns' f'.clauses ≡ at_numbers ns f.clauses ++ clause ∷ []))
lesson-after (Ok a) f f' ns ns' (clause, lesson, fe, ne) h = (
  clause,
  lesson-both ns f.clauses clause h lesson,
  ap₂ (λ (ms : List ℕ) (g : Formula). at_numbers ms g.clauses) ne fe ∙ numbers-more ns (length f.clauses) f.clauses clause h refl,
)
lesson-after (Err e) f f' ns ns' x h = tt

pub returns-clause-sound : goal.returns-clause-sound
returns-clause-sound c = record {
  over = c.take_lesson-learnt.ensures.over;
  search = c.take_lesson-learnt.ensures.search;
  learned = numbers-after c.take_lesson-learnt.result c.args.engine.now.store c.take_lesson-learnt.new.engine.store c.args.engine.now.learned c.take_lesson-learnt.new.engine.learned
      c.take_lesson-learnt.ensures.lesson c.take_lesson-learnt.ensures.same c.take_lesson-learnt.ensures.same_learned c.requires.sound.learned;
}

pub returns-clause-given : goal.returns-clause-given
returns-clause-given c =
    given-after c.take_lesson-learnt.result c.args.engine.now.store c.take_lesson-learnt.new.engine.store c.args.engine.now.learned c.take_lesson-learnt.new.engine.learned
    c.take_lesson-learnt.ensures.lesson c.take_lesson-learnt.ensures.same c.take_lesson-learnt.ensures.same_learned

pub returns-clause-footing : goal.returns-clause-footing
returns-clause-footing c =
    footing-jumped c.args._assumptions.now c.args.engine.now.trail c.take_lesson-learnt.new.engine.trail c.args.footing.now _ c.requires.footing c.take_lesson-learnt.ensures.jump
    (c.min-footing.ensures ∙ ap (λ (n : ℕ). min c.args.footing.now.level n) c.level.ensures.level) refl

pub returns-clause-lesson : goal.returns-clause-lesson
returns-clause-lesson c =
    lesson-after c.take_lesson-learnt.result c.args.engine.now.store c.take_lesson-learnt.new.engine.store c.args.engine.now.learned c.take_lesson-learnt.new.engine.learned c.take_lesson-learnt.ensures.lesson c.requires.sound.learned
