use Rattle.std.proofs.Common.{sym, ap}
use Rattle.model_library.specs.ShippedModels.{shipped_text}
use Rattle.model_library.proofs.texts.ShippedModel.text.Goals as goal

pub returns-in-Sequential : goal.returns-in-Sequential
unfolding shipped_text
returns-in-Sequential c = record { written = sym (ap shipped_text c.in-Sequential.is) }

pub returns-in-Ext4like : goal.returns-in-Ext4like
unfolding shipped_text
returns-in-Ext4like c = record { written = sym (ap shipped_text c.in-Ext4like.is) }

pub returns-in-Loose : goal.returns-in-Loose
unfolding shipped_text
returns-in-Loose c = record { written = sym (ap shipped_text c.in-Loose.is) }
