use Rattle.std.proofs.Common.{ℕ, List, length, sym, ◌∙◌, subst, arith}
use Rattle.numerals.proofs.Digits.{not_zero}
use Rattle.proof_log.specs.Reading.{AreSitesSoFar}
use Rattle.proof_log.proofs.SiteNumbers.{none_so_far, more_so_far, no_fall, no_rest}
use Rattle.proof_log.proofs.opening.numbers_of.Goals as goal

pub loop-site-init : goal.loop-site-init
loop-site-init c = subst (λ (xs : List ℕ). AreSitesSoFar c.args.bytes.now xs 0 c.args.bytes.now) (sym c.new-sites.ensures.items) (none_so_far c.args.bytes.now)

pub returns-then-site-last : goal.returns-then-site-last
returns-then-site-last c =
    no_fall c.args.bytes.now c.loop-site.sites.items c.loop-site.last c.loop-site.rest.now c.in-Some.site c.in-Some.behind.now c.loop-site.invariant c.in-Some.ensures c.if-site-last.true

pub loop-site-preserved : goal.loop-site-preserved
loop-site-preserved c =
    subst (λ (xs : List ℕ). AreSitesSoFar c.args.bytes.now xs c.in-Some.site c.in-Some.behind.now) (sym c.in_ok-push.ensures.items)
    (more_so_far c.args.bytes.now c.loop-site.sites.items c.loop-site.last c.loop-site.rest.now c.in-Some.site c.in-Some.behind.now c.loop-site.invariant c.in-Some.ensures (omega (arith, c.if-site-last.false)))

pub returns-then-not-is_empty : goal.returns-then-not-is_empty
returns-then-not-is_empty c =
    no_rest c.args.bytes.now c.loop-site.sites.items c.loop-site.last c.loop-site.rest.now c.loop-site.invariant c.in_default.ensures
    (not_zero (length c.loop-site.rest.now) (sym c.is_empty.ensures ∙ c.if-not-is_empty.true))
