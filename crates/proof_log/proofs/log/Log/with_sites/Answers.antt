use Rattle.std.proofs.Common.{◌≤◌, All, refl, subst}
use Rattle.std.proofs.lemmas.Option.{IfSome_then}
use Rattle.proof_log.proofs.log.Log.with_sites.Goals as goal

pub invariant_of-result : goal.invariant_of-result
invariant_of-result c =
    let narrow : All (λ n. n ≤ 4294967295) c.args.sites = subst (All (λ n. n ≤ 4294967295)) c.as_slice.ensures c.keep_width.ensures in
    record {
      part = c.keeps_rules.ensures;
      ascending = c.requires.ascending;
      numbered = λ k d l. (c.requires.numbered k d l, narrow k d l);
      none = λ e. absurd cc;
      asked = IfSome_then c.args.question c.requires.asked (λ q h. (h, refl));
    }
