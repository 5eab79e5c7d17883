use Rattle.std.proofs.Common.{rules, ap, ap₂, refl, true, ◌≡◌, ◌∙◌, map, string_bytes, subst, IfOk}
use Rattle.std.proofs.lemmas.Result.{IfErr-weaker, IfOk-weaker}
use Rattle.clap.specs.Words.{App, app_of, is_simple, is_simple_and_free, matches_of, fault_of, FailsBy, HasMatchesOf, rows_of, found_of}
use Rattle.clap.proofs.OnLiterals.{clap_on_literals}
use Rattle.command_line.specs.SimpleCommand.{line_app}
use Rattle.command_line.proofs.line.parsed.Goals as goal

simple : is_simple line_app ≡ true
unfolding clap_on_literals line_app
simple = refl

free : is_simple_and_free line_app ≡ true
unfolding clap_on_literals line_app
free = refl

pub returns-clause-rows : goal.returns-clause-rows
returns-clause-rows c =
    let e : app_of c.in_ok-command.command ≡ line_app = c.in_ok-command.ensures in
    let P : App → Type 0 = λ a. IfOk c.try_get_matches_from.result (λ m. rows_of (found_of m) ≡ matches_of a (map (λ s. string_bytes s) c.args.words.now)) in
    let said : P (app_of c.in_ok-command.command) =
    IfOk-weaker c.try_get_matches_from.result (λ m. HasMatchesOf (app_of c.in_ok-command.command) (map (λ s. string_bytes s) c.args.words.now) m) _
    (λ m h. (h (ap is_simple e ∙ simple)).0) c.try_get_matches_from.ensures.matches in
    subst P e said

pub returns-clause-exact : goal.returns-clause-exact
returns-clause-exact c =
    let e : app_of c.in_ok-command.command ≡ line_app = c.in_ok-command.ensures in
    let P : App → Type 0 = λ a. FailsBy (fault_of a (map (λ s. string_bytes s) c.args.words.now)) c.try_get_matches_from.result in
    subst P e (c.try_get_matches_from.ensures.kinds (ap is_simple_and_free e ∙ free))
