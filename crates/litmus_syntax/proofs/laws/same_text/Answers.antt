use Rattle.litmus_syntax.proofs.SameTexts.{same_texts}
use Rattle.litmus_syntax.proofs.laws.same_text.Goals as goal

pub returns : goal.returns
returns c = same_texts
