use Rattle.std.proofs.Common.{◌≡◌, ◌+◌, Some, sym, ap}
use Rattle.text_scan.specs.Kinds.{kind_of, len_behind}
use Rattle.text_scan.proofs.Following.{bad_at}
use Rattle.text_scan.proofs.scanning.token_at.Goals as goal

pub returns-then-not-has_form : goal.returns-then-not-has_form
returns-then-not-has_form c =
    let kind = c.in_ok-kind.kind in
    let kinds : kind_of c.in_ok-first.first.now ≡ Some kind = sym c.in_ok-kind.ensures in
    let end : c.args.start + 1 + c.len_behind.result ≡ c.args.start + 1 + len_behind (Some kind) c.in_ok-first.behind.now = ap (λ n. c.args.start + 1 + n) c.len_behind.ensures.len in
    bad_at c.args.line.now c.args.start c.split_at.result.1.now c.in_ok-first.behind.now c.in_ok-first.first.now (c.args.start + 1 + c.len_behind.result) kind
    c.requires.within c.requires.no_comment c.split_at.ensures.back c.in_ok-first.ensures.cases.0 kinds end c.if-not-has_form.ensures
