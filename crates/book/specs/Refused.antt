-- Document 01, "Answers by number": the number and the place of each refusal. Assumes nothing.
use Rattle.std.specs.Prelude.{ℕ}
use Rattle.book.specs.declared.refusal.Refusal.TheVariants.{Short, Ranges, Extent, Node}
use Rattle.book.specs.declared.refusal.NoAnswer.{NoAnswer}
use Rattle.book.specs.declared.refusal.NoAnswer.TheVariants.{Lent, Refused, Oversized}

abbrev pub number_of : NoAnswer → ℕ
number_of Lent = 10
number_of (Refused Short) = 11
number_of (Refused Ranges) = 12
number_of (Refused Extent) = 13
number_of (Refused (Node i)) = 14
number_of Oversized = 15

abbrev pub place_of : NoAnswer → ℕ
place_of Lent = 0
place_of (Refused Short) = 0
place_of (Refused Ranges) = 0
place_of (Refused Extent) = 0
place_of (Refused (Node i)) = i
place_of Oversized = 0
