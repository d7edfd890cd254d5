-- Bytes that are not UTF-8 (Unicode, table 3-7). The fault stands at the first byte behind their longest front that is.
use Rattle.std.specs.Prelude.{List, [], ◌∷◌}
use Rattle.small_sources.specs.Rows.{ByteRow, ill_formed_at}

abbrev pub ill_formed_rows : List ByteRow
ill_formed_rows =
    (0x80 ∷ [], ill_formed_at 1 1)
    ∷ (0xC0 ∷ 0x80 ∷ [], ill_formed_at 1 1)
    ∷ (0xED ∷ 0xA0 ∷ 0x80 ∷ [], ill_formed_at 1 1)
    ∷ (0xF4 ∷ 0x90 ∷ 0x80 ∷ 0x80 ∷ [], ill_formed_at 1 1)
    ∷ (0x22 ∷ 0xC3 ∷ [], ill_formed_at 1 2)
    ∷ (0xC3 ∷ 0xA9 ∷ 0xC3 ∷ [], ill_formed_at 1 3)
    ∷ (0x0A ∷ 0xFF ∷ [], ill_formed_at 2 1)
    -- before the bad token that stands before it
    ∷ (0x40 ∷ 0xE2 ∷ 0x82 ∷ 0x41 ∷ [], ill_formed_at 1 2)
    ∷ []
