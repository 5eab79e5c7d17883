-- The files of the models that come with Ferrite.
use Rattle.std.proofs.Common.{◌≡◌, ℕ, ◌≤◌, List, [], ◌∷◌, length, Some, codes, refl, arith}
use Rattle.text_scan.specs.Lines.{lines_of}
use Rattle.model_library.specs.declared.texts.ShippedModel.{ShippedModel}
use Rattle.model_library.specs.declared.texts.ShippedModel.TheVariants.{Sequential, Ext4like, Loose}
use Rattle.model_library.specs.ShippedModels.{shipped_text, shipped_lines}
use Rattle.model_reader.specs.declared.draft.Stage.TheVariants as stage
use Rattle.model_reader.specs.declared.draft.Draft.{Draft}
use Rattle.model_reader.specs.declared.model.Model.{Model}
use Rattle.model_reader.specs.ModelText.{IsModelText}
use Rattle.shipped_meaning.specs.Shipped.{shipped_model}
use Rattle.shipped_meaning.proofs.Files.{empty_draft, behind_lines, file_read}

-- the draft behind the whole file of a model that defines these names
abbrev whole_draft : List (List ℕ) → Model → Draft
whole_draft names m = record { stage = stage.BehindEnd; name = m.name; version = m.version; names = names; lets = m.lets; keeps = m.keeps }

abbrev names_defined : ShippedModel → List (List ℕ)
names_defined Ext4like = codes "names" ∷ codes "meta" ∷ []
names_defined m = []

short : (m : ShippedModel) → length (shipped_text m) ≤ 65536
unfolding shipped_text
short Sequential = omega arith
short Ext4like = omega arith
short Loose = omega arith

cut : (m : ShippedModel) → lines_of (shipped_text m) ≡ shipped_lines m
unfolding shipped_text
cut Sequential = refl
cut Ext4like = refl
cut Loose = refl

drafted : (m : ShippedModel) → behind_lines (Some empty_draft) (shipped_lines m) ≡ Some (whole_draft (names_defined m) (shipped_model m))
drafted Sequential = refl
drafted Ext4like = refl
drafted Loose = refl

pub model_read : (m : ShippedModel) → IsModelText (shipped_text m) (shipped_model m)
model_read m = file_read (shipped_text m) (shipped_lines m) (whole_draft (names_defined m) (shipped_model m)) (short m) (cut m) (drafted m) refl
