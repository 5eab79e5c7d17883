use Rattle.std.proofs.Common.{◌≤◌, ◌+◌, length, arith}
use Rattle.text_scan.proofs.Following.{blanks_end}
use Rattle.text_scan.proofs.scanning.next_token.Goals as goal

pub overflow_add-start : goal.overflow_add-start
overflow_add-start c =
    let within : c.args.place + c.blanks_len.result ≤ length c.args.line.now =
    (blanks_end c.args.line.now c.split_at.result.1.now c.args.place c.blanks_len.result c.requires c.split_at.ensures.back c.blanks_len.ensures).1 in
    omega arith

pub bounds-line-start : goal.bounds-line-start
bounds-line-start c =
    let within : c.args.place + c.blanks_len.result ≤ length c.args.line.now =
    (blanks_end c.args.line.now c.split_at.result.1.now c.args.place c.blanks_len.result c.requires c.split_at.ensures.back c.blanks_len.ensures).1 in
    omega arith

pub token_at-requires-clause-within : goal.token_at-requires-clause-within
token_at-requires-clause-within c =
    let within : c.args.place + c.blanks_len.result ≤ length c.args.line.now =
    (blanks_end c.args.line.now c.split_at.result.1.now c.args.place c.blanks_len.result c.requires c.split_at.ensures.back c.blanks_len.ensures).1 in
    omega arith
