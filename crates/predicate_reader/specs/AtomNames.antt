-- Private: the words that atoms begin with, or are. Only the contracts of private functions cite it.
use Rattle.std.specs.Prelude.{ℕ, List, codes}
use Rattle.predicate_reader.specs.declared.atoms.AtomName.{AtomName}
use Rattle.predicate_reader.specs.declared.atoms.AtomName.TheVariants as name

abbrev pub atom_text : AtomName → List ℕ
atom_text name.True = codes "true"
atom_text name.False = codes "false"
atom_text name.Exists = codes "exists"
atom_text name.Same = codes "same"
atom_text name.Size = codes "size"
atom_text name.Content = codes "content"
atom_text name.Bytes = codes "bytes"
atom_text name.Attr = codes "attr"
atom_text name.Seen = codes "seen"
