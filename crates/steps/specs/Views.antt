-- The memory of the code as the definitions have it.
use Rattle.std.specs.Prelude.{List, vec_items}
use Rattle.command.specs.declared.Command.{Command}
use Rattle.protocol.specs.Desks.{State, following, standing}
use Rattle.protocol.specs.Desks as desks
use Rattle.steps.specs.declared.memory.Memory.{Memory}
use Rattle.steps.specs.declared.memory.Role.{Role}
use Rattle.steps.specs.declared.memory.Role.TheVariants.{Following, Standing}

-- the line counts only for a director that stands
abbrev pub role_of : Role → List Command → desks.Role
role_of Following line = following
role_of (Standing q reports) line = standing q line reports

abbrev pub view : Memory → State
view m =
    record {
      number = m.number;
      founding = m.founding;
      role = role_of m.role (vec_items m.line);
      acks = m.acks;
    }
