use Rattle.fer_events.proofs.OneOrder.{only_order, numbers_valid}
use Rattle.fer_events.proofs.laws.all_pairs_keep_program_order.Goals as goal

pub returns-clause-valid : goal.returns-clause-valid
returns-clause-valid c = numbers_valid

pub returns-clause-only : goal.returns-clause-only
returns-clause-only c = only_order
