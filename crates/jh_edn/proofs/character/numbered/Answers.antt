use Rattle.std.proofs.Common.{arith, refl}
use Rattle.jh_edn.proofs.CharacterLemmas.{numbered_is}
use Rattle.jh_edn.proofs.character.numbered.Goals as goal

pub returns : goal.returns
returns c =
    let name = c.args.name.now in
    numbered_is name _ c.in_ok-code.code c.in_ok-code-2.field-0 c.in_ok-code-3.field-0 c.in_ok-code-4.field-0 c.from_u32.result (omega arith) (grind arith)
    (rw (← c.hex_value.ensures) c.in_ok-code.was) (rw (← c.hex_value-2.ensures) c.in_ok-code-2.was) (rw (← c.hex_value-3.ensures) c.in_ok-code-3.was) (rw (← c.hex_value-4.ensures) c.in_ok-code-4.was)
    refl c.from_u32.ensures.value c.from_u32.ensures.cases
