use Rattle.model_library.specs.ShippedModels.{shipped_text}
use Rattle.shipped_meaning.specs.Shipped.{shipped_model}
use Rattle.shipped_meaning.proofs.ShippedFiles.{model_read}
use Rattle.shipped_meaning.proofs.laws.shipped_models_are_read.Goals as goal

pub returns-clause-read : goal.returns-clause-read
returns-clause-read c = model_read

pub returns-clause-nothing_else : goal.returns-clause-nothing_else
returns-clause-nothing_else c = λ m a read. c.one_reading.ensures.one_model (shipped_text m) a (shipped_model m) read (model_read m)

pub returns-clause-never_refused : goal.returns-clause-never_refused
returns-clause-never_refused c = λ m line kind refused.
    c.one_reading.ensures.text_or_refused (shipped_text m) (shipped_model m) line kind (model_read m) refused
