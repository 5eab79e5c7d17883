use Rattle.std.proofs.Common.{arith}
use Rattle.std.proofs.lemmas.List.Sums.{prefix_len-le-length}
use Rattle.text_scan.specs.Bytes.{is_name_byte, is_path_byte}
use Rattle.text_scan.proofs.scanning.len_behind.Goals as goal

pub returns-in-Word-clause-within : goal.returns-in-Word-clause-within
returns-in-Word-clause-within c = omega (arith, c.name_len.ensures, prefix_len-le-length is_name_byte c.args.behind.now)

pub returns-in-PathToken-clause-within : goal.returns-in-PathToken-clause-within
returns-in-PathToken-clause-within c = omega (arith, c.path_len.ensures, prefix_len-le-length is_path_byte c.args.behind.now)
