-- What `fetch` and `keep` ensure of the count of faults gives what every library promises. Of what is held nothing is told.
use Rattle.std.proofs.Common.{Ok, Err, IfOk, OnOk, arith, refl}
use Rattle.fer_outside.proofs.disk.DiskLibraryLibrary.TheImpl.Goals as goal

pub fetch-tells : goal.fetch-tells
fetch-tells g c = record {
  bytes = elim c.result as (λ r. IfOk r (λ v. Unit {0})) [ Ok v ↦ tt | Err e ↦ tt ];
  within = c.ensures.within;
  missing = λ is. let counted = c.ensures.missing is in omega arith;
  too_long = λ is. tt;
  failed = λ is. let counted = c.ensures.failed is in omega arith;
  never_falls = λ other. c.ensures.never_falls;
  stays = refl;
}

pub keep-tells : goal.keep-tells
keep-tells g c = record {
  kept = elim c.result as (λ r. OnOk r _) [ Ok _ ↦ refl | Err e ↦ tt ];
  cause = λ is. let counted = c.ensures.cause is in omega arith;
  others = λ is. tt;
  unkept = λ is. refl;
  rises = λ other. c.ensures.rises;
}
