mod Laws
mod Writing
