pub mod GeneratorWritten
