-- A file is one litmus test, or it is refused, and not both.
use Rattle.std.proofs.Common.{List, ◌∷◌, ◌++◌, map, refl, sym, subst, inl}
use Rattle.std.specs.List.{Contains}
use Rattle.std.proofs.lemmas.List.Elements.{Contains-push}
use Rattle.litmus_syntax.specs.Test.{Test}
use Rattle.line_files.specs.StatedLines.{stated_in}
use Rattle.line_files.proofs.GeneralReadings.{IsTold, IsMade}
use Rattle.litmus_reader.specs.declared.fault.LitmusKind.TheVariants.{NumberRange}
use Rattle.litmus_reader.specs.Statements.{Body, Question}
use Rattle.litmus_reader.specs.StatedLines.{Stated}
use Rattle.litmus_reader.specs.WholeFiles.{stated_step, IsTest}
use Rattle.litmus_reader.specs.LitmusText.{litmus_grammar}
use Rattle.litmus_reader.proofs.Below.{PredicateLaws}
use Rattle.litmus_reader.proofs.Leading.{one_statement, no_statement_blank}
use Rattle.litmus_reader.proofs.OneTest.{front_of, one_test}
use Rattle.litmus_reader.proofs.SoundTest.{test_sound}

-- tokens without a fault are one statement
pub told : IsTold litmus_grammar
told = record {
  some = no_statement_blank;
  one = λ before s t sound e. one_statement s t (λ there. sound NumberRange (s, refl, inl there)) e;
}

asked_there : (stated : List Stated) (t : Test) (h : IsTest stated t) → Contains stated (stated_in t.pred_line (Question t.want h.asked))
asked_there stated t h =
    subst (λ (st : List Stated). Contains st (stated_in t.pred_line (Question t.want h.asked))) (sym h.order) (Contains-push (front_of h ++ stated_in h.body_line Body ∷ map stated_step t.body) (stated_in t.pred_line (Question t.want h.asked)))

-- statements of a file make one test, of statements without a fault, one of which is the question
pub made : (predicates : PredicateLaws) → IsMade litmus_grammar IsTest
made predicates = record {
  one = one_test predicates.one;
  sound = test_sound;
  ends = λ stated t h. (stated_in t.pred_line (Question t.want h.asked), asked_there stated t h, (t.want, h.asked, refl));
}
