use Rattle.items.proofs.Stores.{three-words}
use Rattle.items.proofs.put_record.Goals as goal

pub returns : goal.returns
returns c = search three-words
