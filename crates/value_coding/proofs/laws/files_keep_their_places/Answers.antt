use Rattle.value_coding.proofs.GeneralRooms.{bytes-whole, size-fits}
use Rattle.value_coding.proofs.laws.files_keep_their_places.Goals as goal

pub returns-clause-bytes : goal.returns-clause-bytes
returns-clause-bytes c = λ t file order rules there. bytes-whole t file order rules there

pub returns-clause-size : goal.returns-clause-size
returns-clause-size c = λ t file order rules there. size-fits t file order rules there
