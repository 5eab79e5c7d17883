use Rattle.line_files.proofs.GeneralReadings.{LineLaws, one_text, one_refusal, text_or_refused, read_or_refused}
use Rattle.litmus_reader.specs.WholeFiles.{IsTest}
use Rattle.litmus_reader.specs.LitmusText.{litmus_grammar}
use Rattle.litmus_reader.proofs.Below.{PredicateLaws}
use Rattle.litmus_reader.proofs.Deciding.{AreKept, decided}
use Rattle.litmus_reader.proofs.OneReading.{told, made}
use Rattle.litmus_reader.proofs.laws.one_reading.Goals as goal
use Rattle.litmus_reader.proofs.laws.one_reading.Goals.{After-predicate_or_none}

lines : After-predicate_or_none → LineLaws
lines c = record {
  some = c.one_saying.ensures.some;
  one = c.one_saying.ensures.one_list;
  no_bad_byte = c.one_saying.ensures.no_bad_byte;
  no_bad_token = c.one_saying.ensures.no_bad_token;
  formed = c.what_is_said_is_formed.ensures;
}

predicates : After-predicate_or_none → PredicateLaws
predicates c = record { one = c.one_predicate.ensures; some = c.predicate_or_none.ensures }

pub returns : goal.returns
returns c = record {
  one_litmus = one_text litmus_grammar (lines c) told IsTest (made (predicates c));
  one_refusal = one_refusal litmus_grammar (lines c) told;
  text_or_refused = text_or_refused litmus_grammar (lines c) told IsTest (made (predicates c));
  one_of_them = read_or_refused litmus_grammar (lines c) IsTest AreKept (decided (predicates c));
}
