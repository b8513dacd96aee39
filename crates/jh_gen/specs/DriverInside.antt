-- What contracts see of a driver (this project's own).
use Rattle.jh_gen.specs.DriverState.{DriverState, IsKept}
use Rattle.jh_gen.specs.NodeView.{node_state}
use Rattle.jh_gen.specs.declared.driver.Driver.TheInside.{Inside}

abbrev pub driver_state : Inside → DriverState
driver_state d =
    record {
      clients = d.clients;
      state = node_state d.root;
      given = d.given;
      busy = d.busy.items;
      processes = d.processes.items;
    }

abbrev pub IsSoundDriver : Inside → Type 0
IsSoundDriver d = IsKept (driver_state d)
