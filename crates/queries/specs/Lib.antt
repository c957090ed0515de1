-- What a look into a state tells. What the other queries come to stands in terms, lead_parts and table_bytes.
pub mod Look
