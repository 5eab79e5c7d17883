-- What stands in matches under a name.
use Rattle.std.proofs.Common.{◌≡◌, ℕ, List, Option}
use Rattle.clap.specs.Words.{first_value, first_of, rows_of}
use Rattle.clap.specs.declared.parser.matches.Found.{Found}
use Rattle.clap.proofs.WalkLemmas.{first_value-rows}

pub value_in : (f : Found) (id : List ℕ) → first_value f id ≡ first_of id (rows_of f)
value_in f id = first_value-rows f id
