-- What a plain book means.
use Rattle.std.specs.Prelude.{vec_items}
use Rattle.capacity.specs.Meaning.{Meaning}
use Rattle.plain_book.specs.declared.plain.PlainBook.{PlainBook}

-- Just what it keeps.
abbrev pub plain_meaning : PlainBook → Meaning
plain_meaning p = record { clock = p.time.clock; horizon = p.time.horizon; boundaries = vec_items p.boundaries }
