-- Private: how far the lines of a litmus file have come, and what may stand there. The rule is that of `Places`.
use Rattle.std.specs.Prelude.{List, [], ◌∷◌, Option, Some, None}
use Rattle.std.specs.Option.{option_and_then}
use Rattle.litmus_reader.specs.declared.statements.Form.{Form}
use Rattle.litmus_reader.specs.declared.statements.Form.TheVariants as form
use Rattle.litmus_reader.specs.declared.stages.Stage.{Stage}
use Rattle.litmus_reader.specs.declared.stages.Stage.TheVariants.{Start, BehindHead, BehindBlock, BehindSector, InSetup, InBody, End}

-- the stage behind a line of this form, if one may stand here
abbrev pub stage_behind : Stage → Form → Option Stage
stage_behind Start form.Head = Some BehindHead
stage_behind BehindHead form.Block = Some BehindBlock
stage_behind BehindHead form.Sector = Some BehindSector
stage_behind BehindHead form.Setup = Some InSetup
stage_behind BehindHead form.Body = Some InBody
stage_behind BehindBlock form.Sector = Some BehindSector
stage_behind BehindBlock form.Setup = Some InSetup
stage_behind BehindBlock form.Body = Some InBody
stage_behind BehindSector form.Setup = Some InSetup
stage_behind BehindSector form.Body = Some InBody
stage_behind InSetup form.Call = Some InSetup
stage_behind InSetup form.Body = Some InBody
stage_behind InBody form.Call = Some InBody
stage_behind InBody form.Question = Some End
stage_behind stage form = None

-- the stage behind lines of these forms
abbrev pub run : Stage → List Form → Option Stage
run stage [] = Some stage
run stage (f ∷ fs) = option_and_then (λ next. run next fs) (stage_behind stage f)
