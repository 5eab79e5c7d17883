use Rattle.model_reader.proofs.Finishing.{finished, unended}
use Rattle.model_reader.proofs.draft.Draft.finish.Goals as goal

pub returns-in-BehindEnd : goal.returns-in-BehindEnd
returns-in-BehindEnd c = λ stated h sound. finished stated c.args.self h sound c.in-BehindEnd.is

pub returns : goal.returns
returns c = λ stated h sound. unended stated c.args.self h c.in_default.not-BehindEnd
