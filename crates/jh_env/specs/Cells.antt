-- The cells of an environment are those of its tables (this project's own).
pub use Rattle.jh_tables.specs.Cells.{Table, calm_link, running_node, link_at, node_at}
pub use Rattle.jh_tables.specs.declared.cells.Life.{Life}
pub use Rattle.jh_tables.specs.declared.cells.Life.TheVariants.{Running, Paused, Killed}
pub use Rattle.jh_tables.specs.declared.cells.Link.{Link}
pub use Rattle.jh_tables.specs.declared.cells.NodeCell.{NodeCell}
