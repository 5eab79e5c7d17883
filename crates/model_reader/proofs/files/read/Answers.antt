use Rattle.std.proofs.Common.{arith}
use Rattle.model_reader.proofs.files.read.Goals as goal

pub overflow_add-result : goal.overflow_add-result
overflow_add-result c = omega (arith, c.in-Ok.ensures.few_bytes, c.in-Ok.ensures.few_lines)
