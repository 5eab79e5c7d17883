use Rattle.std.proofs.Common.{◌≡◌, ◌==◌, ◌+◌, ◌++◌, [], ◌∷◌, Bool, true, false, cond, List, drop, sym, ◌∙◌, ap, arith, append_assoc}
use Rattle.std.specs.Prelude.{slice_index_or}
use Rattle.std.proofs.lemmas.Bool.Decides.{nat_tests}
use Rattle.sync_parts.specs.Sites.{present_at}
use Rattle.sync_parts.proofs.Steps.{next-behind}
use Rattle.sync_parts.proofs.sites.push_behind.Goals as goal
use Rattle.sync_parts.proofs.sites.push_behind.Goals.{then-site-number+in_ok-push, else-site-number}

pub loop-k-preserved : goal.loop-k-preserved
loop-k-preserved c =
    let k = c.loop-k.k in
    let site = c.index-sites-k.result in
    let number = c.args.number in
    let sites = c.args.sites.now in
    let present = c.args.present.now in
    let items : List Bool = c.loop-k.stays.items in
    let here : Bool = slice_index_or present k false in
    let rest : List Bool = present_at number (drop (k + 1) sites) (drop (k + 1) present) in
    let next = next-behind number sites present k site c.loop-k-test.true c.index-sites-k.is in
    elim c.if-site-number.branch [
      | then-site-number+in_ok-push w ↦
          let same : (site.after == number) ≡ true = grind (arith, nat_tests, w.if-site-number.true) in
          rw w.stays-is
          (ap (λ (l : List Bool). l ++ rest) (w.in_ok-push.ensures.items ∙ ap (λ (b : Bool). items ++ b ∷ []) w.is_present.ensures) ∙ append_assoc items (here ∷ []) rest
          ∙ ap (λ (l : List Bool). items ++ l) (sym (next ∙ ap (λ (b : Bool). cond b (here ∷ rest) rest) same)) ∙ c.loop-k.invariant)
      | else-site-number w ↦
          let apart : (site.after == number) ≡ false = grind (arith, nat_tests, w.if-site-number.false) in
          rw w.stays-is (ap (λ (l : List Bool). items ++ l) (sym (next ∙ ap (λ (b : Bool). cond b (here ∷ rest) rest) apart)) ∙ c.loop-k.invariant)
    ]
