use Rattle.predicate_reader.proofs.atoms.atom_behind.Goals as goal

pub returns-in_ok-exists_at-in-Exists : goal.returns-in_ok-exists_at-in-Exists
returns-in_ok-exists_at-in-Exists c = rw c.in-Exists.is c.in_ok-exists_at-in-Exists.ensures

pub returns-in_ok-same_at-in-Same : goal.returns-in_ok-same_at-in-Same
returns-in_ok-same_at-in-Same c = rw c.in-Same.is c.in_ok-same_at-in-Same.ensures

pub returns-in_ok-size_at-in-Size : goal.returns-in_ok-size_at-in-Size
returns-in_ok-size_at-in-Size c = rw c.in-Size.is c.in_ok-size_at-in-Size.ensures

pub returns-in_ok-content_at-in-Content : goal.returns-in_ok-content_at-in-Content
returns-in_ok-content_at-in-Content c = rw c.in-Content.is c.in_ok-content_at-in-Content.ensures

pub returns-in_ok-bytes_at-in-Bytes : goal.returns-in_ok-bytes_at-in-Bytes
returns-in_ok-bytes_at-in-Bytes c = rw c.in-Bytes.is c.in_ok-bytes_at-in-Bytes.ensures

pub returns-in_ok-attr_at-in-Attr : goal.returns-in_ok-attr_at-in-Attr
returns-in_ok-attr_at-in-Attr c = rw c.in-Attr.is c.in_ok-attr_at-in-Attr.ensures

pub returns-in_ok-seen_at-in-Seen : goal.returns-in_ok-seen_at-in-Seen
returns-in_ok-seen_at-in-Seen c = rw c.in-Seen.is c.in_ok-seen_at-in-Seen.ensures
