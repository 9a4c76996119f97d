-- What a failed write of a text leaves. Assumes nothing.
use Rattle.std.specs.Prelude.{ℕ, ◌<◌, List, length, take}
use Rattle.std.specs.declared.option.Option.{Option}
use Rattle.std.specs.Io.KnownBytes.{Appends}

-- a beginning of the text was written, and not the whole: the known bytes grew by its first n, and by nothing else
pub record Begins (old new : Option (List ℕ)) (text : List ℕ) : Type 0 where
  pub n : ℕ
  pub short : n < length text
  pub written : Appends old new (take n text)
