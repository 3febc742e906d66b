-- What a store that is lent to be read holds.
use Rattle.rules.specs.Sizes.{Sizes}
use Rattle.rules.specs.Cell.{Reader, reader}
use Rattle.store.specs.declared.view.Store.{Store}
use Rattle.store.specs.Shape.{sizes}

abbrev pub size : Store → Sizes
size s = sizes s.shape

abbrev pub cells : Store → Reader
cells s = reader (sizes s.shape) s.words.now
