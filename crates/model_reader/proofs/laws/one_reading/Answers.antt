use Rattle.line_files.proofs.GeneralReadings.{LineLaws, one_text, one_refusal, text_or_refused, read_or_refused}
use Rattle.model_reader.specs.ModelText.{model_grammar, IsModel}
use Rattle.model_reader.proofs.Deciding.{AreKept, decided}
use Rattle.model_reader.proofs.Finishing.{told, made}
use Rattle.model_reader.proofs.laws.one_reading.Goals as goal
use Rattle.model_reader.proofs.laws.one_reading.Goals.{After-what_is_said_is_formed}

lines : After-what_is_said_is_formed → LineLaws
lines c = record {
  some = c.one_saying.ensures.some;
  one = c.one_saying.ensures.one_list;
  no_bad_byte = c.one_saying.ensures.no_bad_byte;
  no_bad_token = c.one_saying.ensures.no_bad_token;
  formed = c.what_is_said_is_formed.ensures;
}

pub returns : goal.returns
returns c = record {
  one_model = one_text model_grammar (lines c) told IsModel made;
  one_refusal = one_refusal model_grammar (lines c) told;
  text_or_refused = text_or_refused model_grammar (lines c) told IsModel made;
  one_of_them = read_or_refused model_grammar (lines c) IsModel AreKept decided;
}
