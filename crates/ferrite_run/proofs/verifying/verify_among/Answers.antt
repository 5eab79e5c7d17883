use Rattle.std.proofs.Common.{List, ℕ, length, refl, sym, subst}
use Rattle.std.specs.List.{Contains}
use Rattle.report.specs.Answers.{LogRefused}
use Rattle.ferrite_run.specs.Done.{Tells}
use Rattle.ferrite_run.specs.Verify.{IsVerified}
use Rattle.ferrite_run.specs.Verify.IsVerified.{unsited}
use Rattle.ferrite_run.specs.Verify.LacksSites.{too_few}
use Rattle.ferrite_run.proofs.Numbers.{some_missing}
use Rattle.ferrite_run.proofs.Ready.{replies_more, told_only}
use Rattle.ferrite_run.proofs.verifying.verify_among.Goals as goal

pub returns-then-not-are_there : goal.returns-then-not-are_there
returns-then-not-are_there c =
    let q = c.args.question.now in
    let log = c.args.log.now in
    let sites = c.args.sites.now in
    let (n, among, more) = some_missing (length sites) c.sites.result.now (sym c.if-not-are_there.ensures) in
    let named : Contains log.sites n = subst (λ (l : List ℕ). Contains l n) c.sites.ensures among in
    record {
      verified = replies_more _ (Tells (IsVerified q log)) c.replied.result
          (λ a e. told_only (IsVerified q log) (LogRefused 2 5) a (unsited (too_few c.args.kind c.requires.of_kind sites c.requires.listed n named more) refl) e) c.replied.ensures.replied;
    }
