use Rattle.std.proofs.Common.{ℕ, ◌++◌, List, sym, ◌∙◌, ap, arith}
use Rattle.std.proofs.lemmas.List.{append-nil}
use Rattle.report.proofs.PathTexts.{found, no_parent, some_parent}
use Rattle.report.proofs.event_table.push_parent.Goals as goal

pub returns-then-len-eq0 : goal.returns-then-len-eq0
returns-then-len-eq0 c =
    let out = c.args.out.now.items in
    let path = c.in-Some.path.now in
    let at = found c.args.dirs.now c.args.dir path c.in-Some.ensures.lookup.3.0 c.in-Some.ensures.lookup.1 in
    let none = no_parent c.args.dirs.now c.args.dir path at (omega (arith, c.len.ensures)) in
    sym (append-nil out) ∙ ap (λ (l : List ℕ). out ++ l) (sym none)

pub returns : goal.returns
returns c =
    let out = c.args.out.now.items in
    let path = c.in-Some.path.now in
    let at = found c.args.dirs.now c.args.dir path c.in-Some.ensures.lookup.3.0 c.in-Some.ensures.lookup.1 in
    let some = some_parent c.args.dirs.now c.args.dir path at (λ e. absurd (omega (arith, e, c.len.ensures))) in
    c.in_ok-push_path.ensures ∙ ap (λ (l : List ℕ). out ++ l) some
