-- The nodes that a `Table` and a `Book` stand for. Assumes nothing.
use Rattle.std.specs.Prelude.{List}
use Rattle.logic.specs.Table.{Node}
use Rattle.book.specs.Rulebook.{table_of}
use Rattle.book.specs.declared.sound.Table.{Table}
use Rattle.book.specs.declared.sound.Book.{Book}

abbrev pub nodes_of : Table → List Node
nodes_of t = table_of t.bytes.now

abbrev pub nodes_in : Book → List Node
nodes_in b = nodes_of b.table
