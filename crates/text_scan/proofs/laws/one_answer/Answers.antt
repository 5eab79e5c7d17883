use Rattle.text_scan.proofs.Existing.{some_answer}
use Rattle.text_scan.proofs.Following.{one_list, no_bad_token}
use Rattle.text_scan.proofs.Outsides.{no_bad_byte}
use Rattle.text_scan.proofs.laws.one_answer.Goals as goal

pub returns : goal.returns
returns c = record { some = some_answer; one_list = one_list; no_bad_byte = no_bad_byte; no_bad_token = no_bad_token }
