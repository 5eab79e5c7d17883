use Rattle.lexeme_reader.proofs.Sayings.{said_once, says_or_not}
use Rattle.lexeme_reader.proofs.laws.one_saying.Goals as goal

pub returns : goal.returns
returns c =
    let tokens = c.one_answer.ensures in
    record {
      some = λ line. says_or_not line (tokens.some line);
      one_list = said_once c.one_meaning.ensures tokens.one_list;
      no_bad_byte = λ line a are bad. tokens.no_bad_byte line are.0 are.1 bad;
      no_bad_token = λ line a are bad. tokens.no_bad_token line are.0 are.1 bad.1;
    }
