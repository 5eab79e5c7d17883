-- What `write` ensures of the count of faults gives what every sink promises. Of what is written nothing is told.
use Rattle.std.proofs.Common.{◌≡◌, Ok, Err, IfOk, OnErr, None, Option, List, ℕ, arith, refl}
use Rattle.fer_outside.specs.Causes.{Rose, one_more}
use Rattle.fer_outside.proofs.stdout.StdSinkSink.TheImpl.Goals as goal

pub write-tells : goal.write-tells
write-tells g c =
    let before = c.args.self.now in
    let now = c.new.self.now in
    let untold : Option (List ℕ) = None in
    record {
      some = c.ensures.some;
      within = c.ensures.within;
      grew = elim c.result as (λ r. IfOk r (λ n. untold ≡ untold)) [ Ok n ↦ refl | Err e ↦ tt ];
      failed = elim c.result as (λ r. OnErr r (now ≡ one_more before) → OnErr r (Rose before now)) [
        | Ok n ↦ λ ok. tt
        | Err e ↦ λ counted. omega arith
      ] c.ensures.failed;
      stays = elim c.result as (λ r. OnErr r (untold ≡ untold)) [ Ok n ↦ tt | Err e ↦ refl ];
      never_falls = c.ensures.never_falls;
    }
